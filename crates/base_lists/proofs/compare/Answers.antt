-- `compare` meets its promise: lists of different lengths are not the same, and others are compared byte by byte. Assumes nothing.
use borrow.Author.Tests.{ne_eqb}
use Rattle.std.proofs.Common.{sym, ◌∙◌}
use Rattle.base_lists.specs.Sameness.{same_length}
use Rattle.base_lists.proofs.compare.Goals as goal

pub returns-else-a-b : goal.returns-else-a-b
returns-else-a-b c = ne_eqb _ _ c.if-a-b.false ∙ sym (same_length _ _ c.if-a-b.false)
