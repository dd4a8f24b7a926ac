-- `fill` meets its promise. The invariant: the first bytes by the rule stand at the buffer's start (`Ramped`). Assumes nothing.
use Rattle.base_ramp.specs.Rule.{Ramped}
use Rattle.base_ramp.proofs.fill.Given as goal

abbrev pub invariant-loop-b : goal.invariant-loop-b
invariant-loop-b l = Ramped l.start l.step l.initial.out l.out l.x l.b-index
