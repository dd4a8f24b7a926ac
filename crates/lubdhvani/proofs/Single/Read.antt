-- The promises of the C calls of the reader, as the check reads them (`Post`), admit a single answer. Assumes nothing.
use mathlib.Core.Path.{◌≡◌, sym, ◌∙◌}
use contract.Lifetimes.{Lfts}
use denote.Triple.Clauses.{AtExit}
use borrow.Fn.Kinds.{Dens, ended_of}
use Rattle.lubdhvani.specs.declared.read.Span.{Span}
use Rattle.lubdhvani.specs.declared.read.Reading.{Reading}
use Rattle.lubdhvani.proofs.read.lubdhvani_next_stretch.Kinds as next-kinds
use Rattle.lubdhvani.proofs.read.lubdhvani_next_stretch.Reads as next-reads
use Rattle.lubdhvani.proofs.read.lubdhvani_read.Kinds as read-kinds
use Rattle.lubdhvani.proofs.read.lubdhvani_read.Reads as read-reads

-- both places
pub lubdhvani-next-stretch-single : (κs : Lfts 1) (a : Dens κs next-kinds.ps) (r r' : Span)
    (x x' : AtExit (ended_of 1 next-kinds.ps next-kinds.r) κs)
    → next-reads.Post κs a r x → next-reads.Post κs a r' x' → r ≡ r'
lubdhvani-next-stretch-single κs a r r' x x' p q = p ∙ sym q

-- the reading, and the line
pub lubdhvani-read-single : (κs : Lfts 4) (a : Dens κs read-kinds.ps) (r r' : Reading)
    (x x' : AtExit (ended_of 4 read-kinds.ps read-kinds.r) κs)
    → read-reads.Post κs a r x → read-reads.Post κs a r' x' → (r ≡ r') × (x.1.1.1.1.1.0.now ≡ x'.1.1.1.1.1.0.now)
lubdhvani-read-single κs a r r' x x' p q = (p.0 ∙ sym q.0, p.1 ∙ sym q.1)
