-- The promises of the C calls of the writers, as the check reads them (`Post`), admit a single answer. Assumes nothing.
use mathlib.Core.Path.{◌≡◌, sym, ◌∙◌}
use contract.Lifetimes.{Lfts}
use denote.Triple.Clauses.{AtExit}
use borrow.Fn.Kinds.{Dens, ended_of}
use Rattle.lubdhvani.specs.declared.frame.Framed.{Framed}
use Rattle.lubdhvani.proofs.frame.lubdhvani_write.Kinds as write-kinds
use Rattle.lubdhvani.proofs.frame.lubdhvani_write.Reads as write-reads
use Rattle.lubdhvani.proofs.frame.lubdhvani_write_two.Kinds as two-kinds
use Rattle.lubdhvani.proofs.frame.lubdhvani_write_two.Reads as two-reads

-- number with length and count, and frame
pub lubdhvani-write-single : (κs : Lfts 5) (a : Dens κs write-kinds.ps) (r r' : Framed)
    (x x' : AtExit (ended_of 5 write-kinds.ps write-kinds.r) κs)
    → write-reads.Post κs a r x → write-reads.Post κs a r' x' → (r ≡ r') × (x.1.1.1.1.1.0.now ≡ x'.1.1.1.1.1.0.now)
lubdhvani-write-single κs a r r' x x' p q = (p.0 ∙ sym q.0, p.1 ∙ sym q.1)

pub lubdhvani-write-two-single : (κs : Lfts 6) (a : Dens κs two-kinds.ps) (r r' : Framed)
    (x x' : AtExit (ended_of 6 two-kinds.ps two-kinds.r) κs)
    → two-reads.Post κs a r x → two-reads.Post κs a r' x' → (r ≡ r') × (x.1.1.1.1.1.1.0.now ≡ x'.1.1.1.1.1.1.0.now)
lubdhvani-write-two-single κs a r r' x x' p q = (p.0 ∙ sym q.0, p.1 ∙ sym q.1)
