-- `Reads` and `Writes` are the contracts of `read`, and of `write` and `write_two`, as the check reads them (`Post`): whatever a proved call gives, what this
-- crate states of `Reads` and `Writes` holds of it. Assumes nothing.
use contract.Lifetimes.{Lfts}
use denote.Triple.Clauses.{AtExit}
use borrow.Fn.Kinds.{Dens, ended_of}
use Rattle.frame_write.specs.declared.Written.{Written}
use Rattle.frame_write.specs.declared.FrameRefusal.{FrameRefusal}
use Rattle.frame_write.proofs.write.Kinds as write-kinds
use Rattle.frame_write.proofs.write.Reads as write-reads
use Rattle.frame_write.proofs.write_two.Kinds as two-kinds
use Rattle.frame_write.proofs.write_two.Reads as two-reads
use Rattle.std.specs.Prelude.{[], Result}
use Rattle.frame_body.specs.declared.Edition.TheVariants.{One, Two}
use Rattle.frame_body.specs.Fields.{own_of}
use Rattle.read_call.specs.declared.Reading.{Reading}
use Rattle.read_call.proofs.read.Kinds as read-kinds
use Rattle.read_call.proofs.read.Reads as read-reads
use Rattle.demand_reading.specs.Promises.{Reads, Writes}

-- the arguments are stream, place, key, font digest, what is asked, and line buffer
pub read-promises : (κs : Lfts 4) (a : Dens κs read-kinds.ps) (r : Reading) (x : AtExit (ended_of 4 read-kinds.ps read-kinds.r) κs)
    → read-reads.Post κs a r x
    → Reads a.1.1.0.now a.1.1.1.0.now a.1.1.1.1.0 a.0.now a.1.0 a.1.1.1.1.1.0.now r x.1.1.1.1.1.0.now
read-promises κs a r x p = p

-- the arguments are key, nonce, font digest, layout, line and frame buffer
pub write-promises : (κs : Lfts 5) (a : Dens κs write-kinds.ps) (w : Result Written FrameRefusal) (x : AtExit (ended_of 5 write-kinds.ps write-kinds.r) κs)
    → write-reads.Post κs a w x
    → Writes a.0.now (own_of One a.1.0.now []) a.1.1.0.now a.1.1.1.0 a.1.1.1.1.0.now a.1.1.1.1.1.0.now w
    x.1.1.1.1.1.0.now
write-promises κs a w x p = p

-- the arguments are key, nonce, font digest, layout, job, line and frame buffer
pub write-two-promises : (κs : Lfts 6) (a : Dens κs two-kinds.ps) (w : Result Written FrameRefusal) (x : AtExit (ended_of 6 two-kinds.ps two-kinds.r) κs)
    → two-reads.Post κs a w x
    → Writes a.0.now (own_of Two a.1.0.now a.1.1.1.1.0.now) a.1.1.0.now a.1.1.1.0 a.1.1.1.1.1.0.now
    a.1.1.1.1.1.1.0.now w x.1.1.1.1.1.1.0.now
write-two-promises κs a w x p = p
