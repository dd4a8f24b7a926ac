-- `accept_all` meets its promise. The invariant: n stretches up to the place reached are lines whose nonces are kept, and what is left decides.
-- Assumes nothing.
use Rattle.frame_spec.specs.Told.{told}
use Rattle.read_spec.specs.Judging.{judge}
use Rattle.accept_call.proofs.Going.{Going}
use Rattle.accept_call.proofs.accept_all.Given as goal

abbrev pub invariant-loop-n : goal.invariant-loop-n
invariant-loop-n l = Going (judge (told l.key l.font l.layout) l.editions) l.stream l.counted l.highs l.lows
    l.at l.n
