use mathlib.Core.Path.{ap, ◌∙◌}
use Prim.Native.Nat.{ℕ}
use native.Mathlib.Nat.{mod-eq_of_lt}
use Rattle.gage_planes_spec.specs.Planes.{drawn_out}
use borrow.Author.Rules.{rules}
use Rattle.gage_planes.proofs.drawn.doubled.Goals as goal

pub returns : goal.returns
returns c =
    c.drawn_out.ensures ∙ ap (λ (k : ℕ). drawn_out c.args.p c.args.p c.args.m k) (mod-eq_of_lt (search rules))
