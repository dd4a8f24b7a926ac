-- `line_at` meets its promise. The loop's invariant: the line behind the others left to pass, from the index reached on, is the one asked for.
-- Assumes nothing.
use Rattle.index_entry.proofs.Passing.{Passed}
use Rattle.index_entry.proofs.line_at.Given as goal

abbrev pub invariant-loop-i : goal.invariant-loop-i
invariant-loop-i l = Passed l.table l.count l.k l.i l.left
