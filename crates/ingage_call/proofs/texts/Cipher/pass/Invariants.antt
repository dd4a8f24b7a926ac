-- `pass` meets its promise. The invariant: the state after i blocks, and what was given out so far over the buffer (`Passing`). Assumes nothing.
use Rattle.ingage_call.proofs.Passing.{Passing}
use Rattle.ingage_call.proofs.texts.Cipher.pass.Given as goal

abbrev pub invariant-loop-i : goal.invariant-loop-i
invariant-loop-i l = Passing l.way l.self.z l.text l.initial.r l.initial.out l.r l.out l.i
