-- The promises of the C calls of the cipher, as the check reads them (`Post`), admit a single answer. Assumes nothing.
use mathlib.Core.Path.{◌≡◌, sym, ◌∙◌}
use contract.Lifetimes.{Lfts}
use denote.Triple.Clauses.{AtExit}
use borrow.Fn.Kinds.{Dens, ended_of}
use Rattle.lubdhvani.specs.declared.answers.Counted.{Counted}
use Rattle.lubdhvani.proofs.ingage.lubdhvani_seal.Kinds as seal-kinds
use Rattle.lubdhvani.proofs.ingage.lubdhvani_seal.Reads as seal-reads
use Rattle.lubdhvani.proofs.ingage.lubdhvani_open.Kinds as open-kinds
use Rattle.lubdhvani.proofs.ingage.lubdhvani_open.Reads as open-reads

-- number with count, and both buffers
pub lubdhvani-seal-single : (κs : Lfts 6) (a : Dens κs seal-kinds.ps) (r r' : Counted)
    (x x' : AtExit (ended_of 6 seal-kinds.ps seal-kinds.r) κs)
    → seal-reads.Post κs a r x → seal-reads.Post κs a r' x' → (r ≡ r') × (x.1.1.1.1.1.0.now ≡ x'.1.1.1.1.1.0.now)
    × (x.1.1.1.1.1.1.0.now ≡ x'.1.1.1.1.1.1.0.now)
lubdhvani-seal-single κs a r r' x x' p q = (p.0 ∙ sym q.0, p.1.0 ∙ sym q.1.0, p.1.1 ∙ sym q.1.1)

-- number with count, and buffer
pub lubdhvani-open-single : (κs : Lfts 6) (a : Dens κs open-kinds.ps) (r r' : Counted)
    (x x' : AtExit (ended_of 6 open-kinds.ps open-kinds.r) κs)
    → open-reads.Post κs a r x → open-reads.Post κs a r' x' → (r ≡ r') × (x.1.1.1.1.1.1.0.now ≡ x'.1.1.1.1.1.1.0.now)
lubdhvani-open-single κs a r r' x x' p q = (p.0 ∙ sym q.0, p.1 ∙ sym q.1)
