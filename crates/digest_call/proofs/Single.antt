-- The promise of `digest_call`, as the check reads it (`Post`), admits a single answer and a single buffer. Assumes nothing.
use Rattle.std.specs.Prelude.{Result}
use mathlib.Core.Path.{◌≡◌, sym, ◌∙◌}
use Prim.Native.Nat.{ℕ}
use contract.Lifetimes.{Lfts}
use denote.Triple.Clauses.{AtExit}
use borrow.Fn.Kinds.{Dens, ended_of}
use Rattle.digest_call.specs.declared.DigestRefusal.{DigestRefusal}
use Rattle.digest_call.proofs.digest.Kinds as kinds
use Rattle.digest_call.proofs.digest.Reads as reads
use Rattle.digest_call.proofs.digest_number.Kinds as digest-number-kinds
use Rattle.digest_call.proofs.digest_number.Reads as digest-number-reads
use Rattle.digest_call.proofs.digest_count.Kinds as digest-count-kinds
use Rattle.digest_call.proofs.digest_count.Reads as digest-count-reads

pub digest-single : (κs : Lfts 2) (a : Dens κs kinds.ps) (r r' : Result ℕ DigestRefusal) (x x' : AtExit (ended_of 2 kinds.ps kinds.r) κs)
    → reads.Post κs a r x → reads.Post κs a r' x' → (r ≡ r') × (x.1.1.0.now ≡ x'.1.1.0.now)
digest-single κs a r r' x x' p q = (p.0 ∙ sym q.0, p.1 ∙ sym q.1)

pub digest-number-single : (κs : Lfts 0) (a : Dens κs digest-number-kinds.ps) (r r' : ℕ) (x x' : AtExit
    (ended_of 0 digest-number-kinds.ps digest-number-kinds.r) κs)
    → digest-number-reads.Post κs a r x → digest-number-reads.Post κs a r' x' → r ≡ r'
digest-number-single κs a r r' x x' p q = p ∙ sym q

pub digest-count-single : (κs : Lfts 0) (a : Dens κs digest-count-kinds.ps) (r r' : ℕ) (x x' : AtExit (ended_of 0 digest-count-kinds.ps digest-count-kinds.r) κs)
    → digest-count-reads.Post κs a r x → digest-count-reads.Post κs a r' x' → r ≡ r'
digest-count-single κs a r r' x x' p q = p ∙ sym q
