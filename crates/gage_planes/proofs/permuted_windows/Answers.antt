use mathlib.Core.Path.{refl, ◌∙◌}
use Prim.Native.Nat.{◌+◌}
use Rattle.gage_planes_spec.proofs.Permuting.{both-permuted}
use borrow.Author.Rules.{rules}
use Rattle.gage_planes.proofs.permuted_windows.Goals as goal

pub returns : goal.returns
returns c =
    let h = c.args.h in
    c.join.ensures
    ∙ both-permuted (h + h) c.args.k c.args.t c.requires.0 h refl (search rules) (search rules) refl c.split-w.ensures
    c.permuted-q.ensures
