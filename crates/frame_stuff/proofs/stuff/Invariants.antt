-- `stuff` meets its promise. The invariant: after i bytes of the body their stuffed bytes are written (`Written`). Assumes nothing.
use Rattle.frame_stuff.proofs.Written.{Written}
use Rattle.frame_stuff.proofs.stuff.Given as goal

abbrev pub invariant-loop-b : goal.invariant-loop-b
invariant-loop-b l = Written l.body l.initial.out l.out l.b-index l.k
