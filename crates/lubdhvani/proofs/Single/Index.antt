-- The promises of the C calls of an index, as the check reads them (`Post`), admit a single answer. Assumes nothing.
use mathlib.Core.Path.{◌≡◌, sym, ◌∙◌}
use contract.Lifetimes.{Lfts}
use denote.Triple.Clauses.{AtExit}
use borrow.Fn.Kinds.{Dens, ended_of}
use Rattle.lubdhvani.specs.declared.index.Indexed.{Indexed}
use Rattle.lubdhvani.specs.declared.index.Entry.{Entry}
use Rattle.lubdhvani.specs.declared.index.EntryLine.{EntryLine}
use Rattle.lubdhvani.proofs.index.lubdhvani_index_update.Kinds as update-kinds
use Rattle.lubdhvani.proofs.index.lubdhvani_index_update.Reads as update-reads
use Rattle.lubdhvani.proofs.index.lubdhvani_index_entry.Kinds as entry-kinds
use Rattle.lubdhvani.proofs.index.lubdhvani_index_entry.Reads as entry-reads
use Rattle.lubdhvani.proofs.index.lubdhvani_index_line.Kinds as line-kinds
use Rattle.lubdhvani.proofs.index.lubdhvani_index_line.Reads as line_reads_lem

-- the number and the count, and the table
pub lubdhvani-index-update-single : (κs : Lfts 4) (a : Dens κs update-kinds.ps) (r r' : Indexed)
    (x x' : AtExit (ended_of 4 update-kinds.ps update-kinds.r) κs)
    → update-reads.Post κs a r x → update-reads.Post κs a r' x' → (r ≡ r') × (x.1.1.1.1.1.0.now ≡ x'.1.1.1.1.1.0.now)
lubdhvani-index-update-single κs a r r' x x' p q = (p.0 ∙ sym q.0, p.1 ∙ sym q.1)

pub lubdhvani-index-entry-single : (κs : Lfts 1) (a : Dens κs entry-kinds.ps) (r r' : Entry)
    (x x' : AtExit (ended_of 1 entry-kinds.ps entry-kinds.r) κs)
    → entry-reads.Post κs a r x → entry-reads.Post κs a r' x' → r ≡ r'
lubdhvani-index-entry-single κs a r r' x x' p q = p ∙ sym q

pub lubdhvani-index-line-single : (κs : Lfts 1) (a : Dens κs line-kinds.ps) (r r' : EntryLine)
    (x x' : AtExit (ended_of 1 line-kinds.ps line-kinds.r) κs)
    → line_reads_lem.Post κs a r x → line_reads_lem.Post κs a r' x' → r ≡ r'
lubdhvani-index-line-single κs a r r' x x' p q = p ∙ sym q
