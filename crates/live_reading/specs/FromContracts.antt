-- `Steps` is the contract of `step`, as the check reads it (`Post`): whatever a proved step gives, what this crate states of `Steps` holds of it. Assumes
-- nothing.
use contract.Lifetimes.{Lfts}
use denote.Triple.Clauses.{AtExit}
use borrow.Fn.Kinds.{Dens, ended_of}
use Rattle.live_spec.specs.declared.Step.{Step}
use Rattle.live_call.proofs.step.Kinds as kinds
use Rattle.live_call.proofs.step.Reads as reads
use Rattle.live_reading.specs.Promises.{Steps}

-- the arguments are window, numbers, piece, key, font digest, what is asked, and line buffer
pub step-promises : (κs : Lfts 5) (a : Dens κs kinds.ps) (r : Step) (x : AtExit (ended_of 5 kinds.ps kinds.r) κs)
    → reads.Post κs a r x
    → Steps a.1.1.1.0.now a.1.1.1.1.0.now a.1.1.1.1.1.0 a.1.0 a.0.now a.1.1.0.now a.1.1.1.1.1.1.0.now r
    x.0.now x.1.1.1.1.1.1.0.now
step-promises κs a r x p = p
