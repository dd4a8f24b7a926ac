-- The promises of `start`, `next_row`, `lines_row`, `listed_number` and `listed_length`, as the check reads them (`Post`), admit a single answer.
-- Assumes nothing.
use Rattle.std.proofs.Common.{◌≡◌, ℕ, sym, ◌∙◌}
use contract.Lifetimes.{Lfts}
use denote.Triple.Clauses.{AtExit}
use borrow.Fn.Kinds.{Dens, ended_of}
use Rattle.tool_listing.specs.declared.Cursor.{Cursor}
use Rattle.tool_listing.specs.declared.Step.{Step}
use Rattle.tool_listing.proofs.start.Kinds as start-kinds
use Rattle.tool_listing.proofs.start.Reads as start-reads
use Rattle.tool_listing.proofs.next_row.Kinds as next-kinds
use Rattle.tool_listing.proofs.next_row.Reads as next-reads
use Rattle.tool_listing.proofs.lines_row.Kinds as lines-kinds
use Rattle.tool_listing.proofs.lines_row.Reads as lines-reads
use Rattle.tool_listing.proofs.listed_number.Kinds as number-kinds
use Rattle.tool_listing.proofs.listed_number.Reads as number-reads
use Rattle.tool_listing.proofs.listed_length.Kinds as length-kinds
use Rattle.tool_listing.proofs.listed_length.Reads as length-reads

pub start-single : (κs : Lfts 0) (a : Dens κs start-kinds.ps) (r r' : Cursor) (x x' : AtExit (ended_of 0 start-kinds.ps start-kinds.r) κs)
    → start-reads.Post κs a r x → start-reads.Post κs a r' x' → r ≡ r'
start-single κs a r r' x x' p q = p ∙ sym q

pub next-row-single : (κs : Lfts 4) (a : Dens κs next-kinds.ps) (r r' : Step) (x x' : AtExit (ended_of 4 next-kinds.ps next-kinds.r) κs)
    → next-reads.Post κs a r x → next-reads.Post κs a r' x' → (r ≡ r') × (x.1.1.1.1.1.1.0.now ≡ x'.1.1.1.1.1.1.0.now)
next-row-single κs a r r' x x' p q = (p.0 ∙ sym q.0, p.1 ∙ sym q.1)

pub lines-row-single : (κs : Lfts 4) (a : Dens κs lines-kinds.ps) (r r' : Step) (x x' : AtExit (ended_of 4 lines-kinds.ps lines-kinds.r) κs)
    → lines-reads.Post κs a r x → lines-reads.Post κs a r' x' → (r ≡ r') × (x.1.1.1.1.0.now ≡ x'.1.1.1.1.0.now)
lines-row-single κs a r r' x x' p q = (p.0 ∙ sym q.0, p.1 ∙ sym q.1)

pub listed-number-single : (κs : Lfts 0) (a : Dens κs number-kinds.ps) (r r' : ℕ) (x x' : AtExit (ended_of 0 number-kinds.ps number-kinds.r) κs)
    → number-reads.Post κs a r x → number-reads.Post κs a r' x' → r ≡ r'
listed-number-single κs a r r' x x' p q = p ∙ sym q

pub listed-length-single : (κs : Lfts 0) (a : Dens κs length-kinds.ps) (r r' : ℕ) (x x' : AtExit (ended_of 0 length-kinds.ps length-kinds.r) κs)
    → length-reads.Post κs a r x → length-reads.Post κs a r' x' → r ≡ r'
listed-length-single κs a r r' x x' p q = p ∙ sym q
