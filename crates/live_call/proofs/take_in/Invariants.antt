-- `take_in` meets its promise. The invariant: what is taken so far and what is left come to the whole (`Going`).
-- Assumes nothing.
use Rattle.live_call.proofs.Going.{Going}
use Rattle.live_call.proofs.take_in.Given as goal

abbrev pub invariant-loop-i : goal.invariant-loop-i
invariant-loop-i l = Going l.initial.seen l.initial.window l.piece l.window l.seen l.i
