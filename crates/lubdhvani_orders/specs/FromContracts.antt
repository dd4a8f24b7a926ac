-- The promises that this crate speaks of are the contracts of the exported calls, as the check reads them (`Post`): whatever a proved call gives, what this
-- crate states holds of it. Assumes nothing.
use contract.Lifetimes.{Lfts}
use denote.Triple.Clauses.{AtExit}
use borrow.Fn.Kinds.{Dens, ended_of}
use Rattle.read_nonce.specs.declared.Nonce.{Nonce}
use Rattle.lubdhvani.specs.declared.accept.Accepted.{Accepted}
use Rattle.lubdhvani.specs.declared.index.Indexed.{Indexed}
use Rattle.lubdhvani.specs.declared.index.Entry.{Entry}
use Rattle.lubdhvani.specs.declared.index.EntryLine.{EntryLine}
use Rattle.lubdhvani.proofs.accept.lubdhvani_accept.Kinds as accept-kinds
use Rattle.lubdhvani.proofs.accept.lubdhvani_accept.Reads as accept-reads
use Rattle.lubdhvani.proofs.accept.lubdhvani_nonce.Kinds as nonce-kinds
use Rattle.lubdhvani.proofs.accept.lubdhvani_nonce.Reads as nonce-reads
use Rattle.lubdhvani.proofs.index.lubdhvani_index_update.Kinds as update-kinds
use Rattle.lubdhvani.proofs.index.lubdhvani_index_update.Reads as update-reads
use Rattle.lubdhvani.proofs.index.lubdhvani_index_entry.Kinds as entry-kinds
use Rattle.lubdhvani.proofs.index.lubdhvani_index_entry.Reads as entry-reads
use Rattle.lubdhvani.proofs.index.lubdhvani_index_line.Kinds as line-kinds
use Rattle.lubdhvani.proofs.index.lubdhvani_index_line.Reads as line_reads_lem
use Rattle.lubdhvani_orders.specs.Promises.{Accepts, Tells, Updates, Finds, FindsLine}

-- the arguments: stream, key, font digest, editions and layout
pub accept-promises : (κs : Lfts 3) (a : Dens κs accept-kinds.ps) (r : Accepted) (x : AtExit (ended_of 3 accept-kinds.ps accept-kinds.r) κs)
    → accept-reads.Post κs a r x
    → Accepts a.1.0.now a.1.1.0.now a.1.1.1.0 a.1.1.1.1.0 a.0.now r
accept-promises κs a r x q = q

-- the argument: the stretch
pub nonce-promises : (κs : Lfts 1) (a : Dens κs nonce-kinds.ps) (n : Nonce) (x : AtExit (ended_of 1 nonce-kinds.ps nonce-kinds.r) κs)
    → nonce-reads.Post κs a n x
    → Tells a.0.now n
nonce-promises κs a n x q = q

-- the arguments: stream, key, font digest, editions, layout, table and count
pub update-promises : (κs : Lfts 4) (a : Dens κs update-kinds.ps) (r : Indexed) (x : AtExit (ended_of 4 update-kinds.ps update-kinds.r) κs)
    → update-reads.Post κs a r x
    → Updates a.1.0.now a.1.1.0.now a.1.1.1.0 a.1.1.1.1.0 a.0.now a.1.1.1.1.1.0.now a.1.1.1.1.1.1.0 r
    x.1.1.1.1.1.0.now
update-promises κs a r x q = q

-- the arguments: table, count and index, or table, count and k
pub entry-promises : (κs : Lfts 1) (a : Dens κs entry-kinds.ps) (r : Entry) (x : AtExit (ended_of 1 entry-kinds.ps entry-kinds.r) κs)
    → entry-reads.Post κs a r x
    → Finds a.0.now a.1.0 a.1.1.0 r
entry-promises κs a r x q = q

pub line-promises : (κs : Lfts 1) (a : Dens κs line-kinds.ps) (r : EntryLine) (x : AtExit (ended_of 1 line-kinds.ps line-kinds.r) κs)
    → line_reads_lem.Post κs a r x
    → FindsLine a.0.now a.1.0 a.1.1.0 r
line-promises κs a r x q = q
