-- `stretches_from` meets its promise. The loop's invariant: those counted and those from the place reached are all, and no more are counted than
-- places were passed. The measure is what is left of the stream. Assumes nothing.
use Prim.Native.Nat.{◌-◌}
use lib.ListN.{length}
use Rattle.index_count.proofs.Counting.{Counting}
use Rattle.index_count.proofs.stretches_from.Given as goal

abbrev pub invariant-loop-at : goal.invariant-loop-at
invariant-loop-at l = Counting l.stream l.from l.n l.at

abbrev pub decreases-loop-at : goal.decreases-loop-at
decreases-loop-at l = length l.stream - l.at
