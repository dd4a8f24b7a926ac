-- `put_hex` meets its promise. The invariant: the digits of the first i bytes stand over the buffer's start (`Written`). Assumes nothing.
use Rattle.base_hex.specs.Digits.{Written}
use Rattle.base_hex.proofs.put_hex.Given as goal

abbrev pub invariant-loop-i : goal.invariant-loop-i
invariant-loop-i l = Written l.bytes l.initial.out l.out l.i
