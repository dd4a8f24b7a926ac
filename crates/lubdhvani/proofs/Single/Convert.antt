-- The promises of the C calls of the converter, as the check reads them (`Post`), admit a single answer. Assumes nothing.
use mathlib.Core.Path.{◌≡◌, sym, ◌∙◌}
use contract.Lifetimes.{Lfts}
use denote.Triple.Clauses.{AtExit}
use borrow.Fn.Kinds.{Dens, ended_of}
use Rattle.lubdhvani.specs.declared.answers.Measured.{Measured}
use Rattle.lubdhvani.proofs.convert.lubdhvani_to_one.Kinds as to-one-kinds
use Rattle.lubdhvani.proofs.convert.lubdhvani_to_one.Reads as to-one-reads
use Rattle.lubdhvani.proofs.convert.lubdhvani_to_two.Kinds as to-two-kinds
use Rattle.lubdhvani.proofs.convert.lubdhvani_to_two.Reads as to-two-reads

-- number with length, and frame
pub lubdhvani-to-one-single : (κs : Lfts 5) (a : Dens κs to-one-kinds.ps) (r r' : Measured)
    (x x' : AtExit (ended_of 5 to-one-kinds.ps to-one-kinds.r) κs)
    → to-one-reads.Post κs a r x → to-one-reads.Post κs a r' x' → (r ≡ r') × (x.1.1.1.1.1.0.now ≡ x'.1.1.1.1.1.0.now)
lubdhvani-to-one-single κs a r r' x x' p q = (p.0 ∙ sym q.0, p.1 ∙ sym q.1)

pub lubdhvani-to-two-single : (κs : Lfts 6) (a : Dens κs to-two-kinds.ps) (r r' : Measured)
    (x x' : AtExit (ended_of 6 to-two-kinds.ps to-two-kinds.r) κs)
    → to-two-reads.Post κs a r x → to-two-reads.Post κs a r' x' → (r ≡ r') × (x.1.1.1.1.1.1.0.now ≡ x'.1.1.1.1.1.1.0.now)
lubdhvani-to-two-single κs a r r' x x' p q = (p.0 ∙ sym q.0, p.1 ∙ sym q.1)
