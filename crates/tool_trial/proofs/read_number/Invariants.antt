-- `read_number` meets its promise. The invariant: v is the number of the first i digits (`Read`). Assumes nothing.
use Rattle.tool_trial.proofs.Reading.{Read}
use Rattle.tool_trial.proofs.read_number.Given as goal

abbrev pub invariant-loop-c : goal.invariant-loop-c
invariant-loop-c l = Read l.word l.v l.c-index
