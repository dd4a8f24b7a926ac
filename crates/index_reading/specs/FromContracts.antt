-- `Updates`, `Finds` and `FindsLine` are the contracts of `update`, `entry_at` and `line_at`, as the check reads them (`Post`): whatever a proved call
-- gives, what this crate states holds of it. Assumes nothing.
use contract.Lifetimes.{Lfts}
use denote.Triple.Clauses.{AtExit}
use borrow.Fn.Kinds.{Dens, ended_of}
use Rattle.index_spec.specs.declared.Updated.{Updated}
use Rattle.index_entry.specs.declared.Entry.{Entry}
use Rattle.index_entry.specs.declared.Line.{Line}
use Rattle.index_entry.proofs.entry_at.Kinds as entry-kinds
use Rattle.index_entry.proofs.entry_at.Reads as entry-reads
use Rattle.index_entry.proofs.line_at.Kinds as line-kinds
use Rattle.index_entry.proofs.line_at.Reads as line_reads_lem
use Rattle.index_call.proofs.update.Kinds as update-kinds
use Rattle.index_call.proofs.update.Reads as update-reads
use Rattle.index_reading.specs.Promises.{Updates, Finds, FindsLine}

-- the arguments are stream, key, font digest, editions, layout, table and count
pub update-promises : (κs : Lfts 4) (a : Dens κs update-kinds.ps) (r : Updated) (x : AtExit (ended_of 4 update-kinds.ps update-kinds.r) κs)
    → update-reads.Post κs a r x
    → Updates a.1.0.now a.1.1.0.now a.1.1.1.0 a.1.1.1.1.0 a.0.now a.1.1.1.1.1.0.now a.1.1.1.1.1.1.0 r
    x.1.1.1.1.1.0.now
update-promises κs a r x p = p

-- the arguments are table, count and index, or table, count and k
pub entry-promises : (κs : Lfts 1) (a : Dens κs entry-kinds.ps) (r : Entry) (x : AtExit (ended_of 1 entry-kinds.ps entry-kinds.r) κs)
    → entry-reads.Post κs a r x → Finds a.0.now a.1.0 a.1.1.0 r
entry-promises κs a r x p = p

pub line-promises : (κs : Lfts 1) (a : Dens κs line-kinds.ps) (r : Line) (x : AtExit (ended_of 1 line-kinds.ps line-kinds.r) κs)
    → line_reads_lem.Post κs a r x → FindsLine a.0.now a.1.0 a.1.1.0 r
line-promises κs a r x p = p
