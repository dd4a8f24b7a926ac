-- `copy` meets its promise. The invariant: what was copied so far stands over the buffer's start (`Filled`). Assumes nothing.
use lib.ListN.{length, take}
use Rattle.base_lists.specs.Fill.{Filled}
use Rattle.base_lent.proofs.copy.Given as goal

abbrev pub invariant-loop-i : goal.invariant-loop-i
invariant-loop-i l = Filled (take (length l.initial.out) l.src) l.initial.out l.out l.i
