-- `rows_of` meets its promise. The invariant: the first k rows are those that the text draws (`Upto`). Assumes nothing.
use Rattle.base_lists.specs.Upto.{Upto}
use Rattle.bundle_draw.specs.Making.{row_from}
use Rattle.bundle_draw.proofs.rows_of.Given as goal

abbrev pub invariant-loop-k : goal.invariant-loop-k
invariant-loop-k l = Upto (row_from l.text l.from) l.row-items l.k
