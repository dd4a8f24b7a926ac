-- The promises of the look-ups, as the check reads them (`Post`), admit a single answer. Assumes nothing.
use mathlib.Core.Path.{◌≡◌, sym, ◌∙◌}
use Prim.Native.Nat.{ℕ}
use contract.Lifetimes.{Lfts}
use denote.Triple.Clauses.{AtExit}
use borrow.Fn.Kinds.{Dens, ended_of}
use Rattle.index_entry.specs.declared.Entry.{Entry}
use Rattle.index_entry.specs.declared.Line.{Line}
use Rattle.index_entry.proofs.entry_at.Kinds as entry-kinds
use Rattle.index_entry.proofs.entry_at.Reads as entry-reads
use Rattle.index_entry.proofs.line_at.Kinds as line-kinds
use Rattle.index_entry.proofs.line_at.Reads as line_reads_lem
use Rattle.index_entry.proofs.place_of.Kinds as place-kinds
use Rattle.index_entry.proofs.place_of.Reads as place-reads
use Rattle.index_entry.proofs.number_of.Kinds as number-kinds
use Rattle.index_entry.proofs.number_of.Reads as number-reads

pub entry-at-single : (κs : Lfts 1) (a : Dens κs entry-kinds.ps) (r r' : Entry) (x x' : AtExit (ended_of 1 entry-kinds.ps entry-kinds.r) κs)
    → entry-reads.Post κs a r x → entry-reads.Post κs a r' x' → r ≡ r'
entry-at-single κs a r r' x x' p q = p ∙ sym q

pub line-at-single : (κs : Lfts 1) (a : Dens κs line-kinds.ps) (r r' : Line) (x x' : AtExit (ended_of 1 line-kinds.ps line-kinds.r) κs)
    → line_reads_lem.Post κs a r x → line_reads_lem.Post κs a r' x' → r ≡ r'
line-at-single κs a r r' x x' p q = p ∙ sym q

pub place-of-single : (κs : Lfts 0) (a : Dens κs place-kinds.ps) (r r' : ℕ) (x x' : AtExit (ended_of 0 place-kinds.ps place-kinds.r) κs)
    → place-reads.Post κs a r x → place-reads.Post κs a r' x' → r ≡ r'
place-of-single κs a r r' x x' p q = p ∙ sym q

pub number-of-single : (κs : Lfts 0) (a : Dens κs number-kinds.ps) (r r' : ℕ) (x x' : AtExit (ended_of 0 number-kinds.ps number-kinds.r) κs)
    → number-reads.Post κs a r x → number-reads.Post κs a r' x' → r ≡ r'
number-of-single κs a r r' x x' p q = p ∙ sym q
