-- `unshuffle_wrapped` meets its promise. The invariant: the first i bytes of the unshuffled state stand in out (`Filled`).
-- Assumes nothing.
use Rattle.gage_shuffle.specs.Shuffling.{unshuffle}
use Rattle.base_lists.specs.Fill.{Filled}
use lib.ListN.{take}
use Rattle.gage_shuffle.proofs.unshuffle_wrapped.Given as goal

abbrev pub invariant-loop-i : goal.invariant-loop-i
invariant-loop-i l = Filled (unshuffle (take l.n l.initial.out)) l.initial.out l.out l.i
