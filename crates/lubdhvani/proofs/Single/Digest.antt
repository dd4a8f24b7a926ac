-- The promises of the C calls of the digest, as the check reads them (`Post`), admit a single answer. Assumes nothing.
use mathlib.Core.Path.{◌≡◌, sym, ◌∙◌}
use contract.Lifetimes.{Lfts}
use denote.Triple.Clauses.{AtExit}
use borrow.Fn.Kinds.{Dens, ended_of}
use Rattle.lubdhvani.specs.declared.answers.Counted.{Counted}
use Rattle.lubdhvani.proofs.digest.lubdhvani_digest.Kinds as digest-kinds
use Rattle.lubdhvani.proofs.digest.lubdhvani_digest.Reads as digest-reads

-- number with count, and buffer
pub lubdhvani-digest-single : (κs : Lfts 2) (a : Dens κs digest-kinds.ps) (r r' : Counted)
    (x x' : AtExit (ended_of 2 digest-kinds.ps digest-kinds.r) κs)
    → digest-reads.Post κs a r x → digest-reads.Post κs a r' x' → (r ≡ r') × (x.1.1.0.now ≡ x'.1.1.0.now)
lubdhvani-digest-single κs a r r' x x' p q = (p.0 ∙ sym q.0, p.1 ∙ sym q.1)
