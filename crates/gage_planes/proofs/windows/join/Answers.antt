use mathlib.Core.Path.{ap, ap₂, ◌∙◌}
use Prim.Native.Nat.{ℕ}
use native.Mathlib.Nat.{mod-eq_of_lt}
use Rattle.gage_planes_spec.specs.declared.Planes.{Planes}
use Rattle.gage_planes_spec.specs.Planes.{drawn_out, cut, taken}
use Rattle.gage_planes_spec.specs.Exact.{same-states}
use borrow.Author.Rules.{rules}
use Rattle.gage_planes.proofs.windows.join.Goals as goal

pub returns : goal.returns
returns c =
    let w = c.args.w in
    let ones = c.ones-m.ensures in
    same-states (c.drawn_out.ensures ∙ ap₂ (drawn_out w.first w.second) ones (mod-eq_of_lt (search rules)))
    (c.taken.ensures ∙ ap₂ (λ (q : Planes) (k : ℕ). taken q k) (c.cut-last.ensures ∙ ap (cut w.second) ones) (mod-eq_of_lt (search rules)))
