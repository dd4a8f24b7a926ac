use mathlib.Core.Path.{refl, ◌∙◌}
use Rattle.gage_planes_spec.specs.Exact.{same-states}
use Rattle.gage_planes_spec.proofs.Permuting.{one-permuted}
use borrow.Author.Rules.{rules}
use Rattle.gage_planes.proofs.permuted_drawn.Goals as goal

pub returns : goal.returns
returns c =
    same-states c.cut.ensures refl
    ∙ one-permuted c.args.n c.args.k c.args.t c.requires.0 (search rules) c.ones-m.ensures
    c.permuted-q.ensures
