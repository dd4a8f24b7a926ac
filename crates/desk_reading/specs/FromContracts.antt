-- `Desks` is the contract of `desk`, as the check reads it (`Post`): whatever a proved call gives, what this crate states holds of it. Assumes nothing.
use Rattle.std.specs.Prelude.{Result, ℕ}
use contract.Lifetimes.{Lfts}
use denote.Triple.Clauses.{AtExit}
use borrow.Fn.Kinds.{Dens, ended_of}
use Rattle.desk_spec.specs.declared.DeskRefusal.{DeskRefusal}
use Rattle.desk_call.proofs.desk.Kinds as kinds
use Rattle.desk_call.proofs.desk.Reads as reads
use Rattle.desk_reading.specs.Promises.{Desks}

-- the arguments are stream, key, font digest, editions, layout, table, count, list and output
pub desk-promises : (κs : Lfts 6) (a : Dens κs kinds.ps) (r : Result ℕ DeskRefusal) (x : AtExit (ended_of 6 kinds.ps kinds.r) κs) → reads.Post κs a r x
    → Desks a.1.0.now a.1.1.0.now a.1.1.1.0 a.1.1.1.1.0 a.0.now a.1.1.1.1.1.0.now a.1.1.1.1.1.1.0
    a.1.1.1.1.1.1.1.0.now a.1.1.1.1.1.1.1.1.0.now r x.1.1.1.1.1.1.1.1.0.now
desk-promises κs a r x p = p
