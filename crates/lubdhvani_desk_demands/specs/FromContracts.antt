-- `Copies` is the contract of `lubdhvani_desk_copy`, as the check reads it (`Post`): whatever a proved call gives, what this crate states holds of it. Assumes
-- nothing.
use contract.Lifetimes.{Lfts}
use denote.Triple.Clauses.{AtExit}
use borrow.Fn.Kinds.{Dens, ended_of}
use Rattle.lubdhvani_desk.specs.declared.Reworked.{Reworked}
use Rattle.lubdhvani_desk.proofs.lubdhvani_desk_copy.Kinds as kinds
use Rattle.lubdhvani_desk.proofs.lubdhvani_desk_copy.Reads as reads
use Rattle.lubdhvani_desk_demands.specs.Promises.{Copies}

-- the arguments are stream, key, font digest, editions, layout, table, count, list and output
pub c-desk-promises : (κs : Lfts 6) (a : Dens κs kinds.ps) (r : Reworked) (x : AtExit (ended_of 6 kinds.ps kinds.r) κs) → reads.Post κs a r x
    → Copies a.1.0.now a.1.1.0.now a.1.1.1.0 a.1.1.1.1.0 a.0.now a.1.1.1.1.1.0.now a.1.1.1.1.1.1.0
    a.1.1.1.1.1.1.1.0.now a.1.1.1.1.1.1.1.1.0.now r x.1.1.1.1.1.1.1.1.0.now
c-desk-promises κs a r x p = p
