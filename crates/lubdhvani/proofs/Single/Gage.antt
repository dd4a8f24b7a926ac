-- The promises of the C calls of the permutation, as the check reads them (`Post`), admit a single answer. Assumes nothing.
use mathlib.Core.Path.{◌≡◌, sym, ◌∙◌}
use Prim.Native.Nat.{ℕ}
use contract.Lifetimes.{Lfts}
use denote.Triple.Clauses.{AtExit}
use borrow.Fn.Kinds.{Dens, ended_of}
use Rattle.lubdhvani.proofs.gage.lubdhvani_permute.Kinds as permute-kinds
use Rattle.lubdhvani.proofs.gage.lubdhvani_permute.Reads as permute-reads
use Rattle.lubdhvani.proofs.gage.lubdhvani_unpermute.Kinds as unpermute-kinds
use Rattle.lubdhvani.proofs.gage.lubdhvani_unpermute.Reads as unpermute-reads

-- number and state
pub lubdhvani-permute-single : (κs : Lfts 1) (a : Dens κs permute-kinds.ps) (r r' : ℕ)
    (x x' : AtExit (ended_of 1 permute-kinds.ps permute-kinds.r) κs)
    → permute-reads.Post κs a r x → permute-reads.Post κs a r' x' → (r ≡ r') × (x.0.now ≡ x'.0.now)
lubdhvani-permute-single κs a r r' x x' p q = (p.0 ∙ sym q.0, p.1 ∙ sym q.1)

pub lubdhvani-unpermute-single : (κs : Lfts 1) (a : Dens κs unpermute-kinds.ps) (r r' : ℕ)
    (x x' : AtExit (ended_of 1 unpermute-kinds.ps unpermute-kinds.r) κs)
    → unpermute-reads.Post κs a r x → unpermute-reads.Post κs a r' x' → (r ≡ r') × (x.0.now ≡ x'.0.now)
lubdhvani-unpermute-single κs a r r' x x' p q = (p.0 ∙ sym q.0, p.1 ∙ sym q.1)
