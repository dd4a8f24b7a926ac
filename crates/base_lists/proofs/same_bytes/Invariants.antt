-- `same_bytes` meets its promise. The invariant: whether the bytes so far are the same (`Compared`). Assumes nothing.
use Rattle.std.proofs.Common.{length}
use Rattle.base_lists.specs.Sameness.{Compared}
use Rattle.base_lists.proofs.same_bytes.Given as goal

abbrev pub invariant-loop-x : goal.invariant-loop-x
invariant-loop-x l = Compared l.a l.b l.equal (length l.yielded)
