-- `write_body` meets its promise. The invariant: after i bytes of the stretch the first k bytes of the body are written and the
-- rest of the body is what is left (`Unwound`). Assumes nothing.
use Rattle.frame_stuff.proofs.Unstuffing.{Unwound}
use Rattle.frame_stuff.proofs.write_body.Given as goal

abbrev pub invariant-loop-b : goal.invariant-loop-b
invariant-loop-b l = Unwound l.s l.initial.out l.out l.b-index l.k l.escaped
