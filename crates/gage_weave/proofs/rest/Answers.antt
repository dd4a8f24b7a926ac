use mathlib.Core.Path.{◌≡◌, sym, ap, ◌∙◌}
use mathlib.Core.List.{List, []}
use Prim.Native.Nat.{ℕ, ◌-◌}
use lib.ListN.{take, drop, drop_of_length-le}
use Rattle.base_digits.specs.Joined.{grown, joined}
use Rattle.gage_planes_spec.specs.Told.{LOW, ROOM, plane, rest_of}
use Rattle.gage_weave.specs.Weaving.{woven}
use Rattle.gage_weave.specs.Drawing.{rest-woven, take-least}
use native.Mathlib.Omega.{arith}
use Rattle.gage_weave.proofs.rest.Goals as goal

-- src/lib.rt:139:9
pub returns-then-s-le-LOW : goal.returns-then-s-le-LOW
unfolding rest_of plane grown
returns-then-s-le-LOW c =
    let start = c in
    let none : drop LOW start.args.s.now ≡ [] = drop_of_length-le start.args.s.now {i = LOW} (omega (arith, c.if-s-le-LOW.true)) in
    ap (λ (r : List ℕ). rest_of (take (ROOM - LOW) r)) (sym none)

-- src/lib.rt:135:1
pub returns : goal.returns
returns c =
    let start = c in
    let s = start.args.s.now in
    c.woven.ensures ∙ ap woven (c.word_of.ensures ∙ ap joined (take-least s _ c.min-end.ensures
    (omega (arith, c.if-s-le-LOW.false))))
    ∙ rest-woven (take (ROOM - LOW) (drop LOW s))
