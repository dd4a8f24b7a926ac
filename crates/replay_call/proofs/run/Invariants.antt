-- `run` meets its promise. The invariant: some first events are done, and the state stands for the press after them. The measure: the events that may
-- still be done. Assumes nothing.
use Prim.Native.Nat.{◌-◌}
use Rattle.frame_spec.specs.Told.{told}
use Rattle.replay_spec.specs.Answers.{judging}
use Rattle.replay_call.proofs.Running.{Running}
use Rattle.replay_call.proofs.run.Given as goal

abbrev pub invariant-loop-s : goal.invariant-loop-s
invariant-loop-s l = Running (judging (told l.key l.font l.layout) l.editions) l.trace l.initial.buf l.limit l.s l.buf

abbrev pub decreases-loop-s : goal.decreases-loop-s
decreases-loop-s l = l.limit - l.s.event
