use mathlib.Core.Path.{refl, ◌∙◌}
use Rattle.gage_planes_spec.specs.Exact.{same-states}
use Rattle.gage_planes_spec.proofs.Permuting.{one-permuted}
use borrow.Author.Rules.{rules}
use Rattle.gage_planes.proofs.permuted_around.Goals as goal

pub returns : goal.returns
returns c =
    same-states c.cut.ensures refl ∙ one-permuted 64 c.args.k c.args.t c.requires.0 (search rules) refl c.permuted-q.ensures
