use mathlib.Core.Path.{ap, ◌∙◌}
use native.Mathlib.Nat.{mod-eq_of_lt}
use borrow.Author.Tests.{lt-ltb, le-ltb}
use Rattle.gage_planes_spec.specs.Planes.{taken}
use Rattle.gage_weave.specs.Weaving.{eight_of}
use native.Mathlib.Omega.{arith}
use Rattle.gage_weave.proofs.eight.Goals as goal

-- src/lib.rt:208:9
pub returns-then-i-lt-LOW : goal.returns-then-i-lt-LOW
unfolding eight_of
returns-then-i-lt-LOW c =
    let start = c in
    rw (lt-ltb start.args.i 64 c.if-i-lt-LOW.true) (c.taken.ensures ∙ ap (taken start.args.t.low) (mod-eq_of_lt c.if-i-lt-LOW.true))

-- src/lib.rt:204:1
pub returns : goal.returns
unfolding eight_of
returns c =
    rw (le-ltb c.args.i 64 (omega (arith, c.if-i-lt-LOW.false)))
