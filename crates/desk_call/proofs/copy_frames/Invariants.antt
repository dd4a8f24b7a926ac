-- `copy_frames` meets its promise. The loop's invariant: the frames of the items passed stand over the output's start. Assumes nothing.
use Rattle.desk_call.proofs.Copying.{Copying}
use Rattle.desk_call.proofs.copy_frames.Given as goal

abbrev pub invariant-loop-i : goal.invariant-loop-i
invariant-loop-i l = Copying l.stream l.table l.list l.initial.out l.out l.at l.i-index
