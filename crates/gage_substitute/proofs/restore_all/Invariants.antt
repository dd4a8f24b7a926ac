-- `restore_all` meets its promise. The invariant: what is left is restored from the cell p on (`Restored`). Assumes nothing.
use Rattle.gage_substitute.proofs.Restoring.{Restored}
use Rattle.gage_substitute.proofs.restore_all.Given as goal

abbrev pub invariant-loop-x : goal.invariant-loop-x
invariant-loop-x l = Restored l.leader l.initial.s l.s l.p l.x-index
