-- The promises of the C calls of bundles, as the check reads them (`Post`), admit a single answer. Assumes nothing.
use mathlib.Core.Path.{◌≡◌, sym, ◌∙◌}
use Prim.Native.Nat.{ℕ}
use contract.Lifetimes.{Lfts}
use denote.Triple.Clauses.{AtExit}
use borrow.Fn.Kinds.{Dens, ended_of}
use Rattle.lubdhvani.specs.declared.answers.Measured.{Measured}
use Rattle.lubdhvani.specs.declared.bundle.Part.{Part}
use Rattle.lubdhvani.proofs.bundle.lubdhvani_bundle_write.Kinds as write-kinds
use Rattle.lubdhvani.proofs.bundle.lubdhvani_bundle_write.Reads as write-reads
use Rattle.lubdhvani.proofs.bundle.lubdhvani_bundle_read.Kinds as read-kinds
use Rattle.lubdhvani.proofs.bundle.lubdhvani_bundle_read.Reads as read-reads
use Rattle.lubdhvani.proofs.bundle.lubdhvani_bundle_digest.Kinds as digest-kinds
use Rattle.lubdhvani.proofs.bundle.lubdhvani_bundle_digest.Reads as digest-reads
use Rattle.lubdhvani.proofs.bundle.lubdhvani_bundle_name.Kinds as name-kinds
use Rattle.lubdhvani.proofs.bundle.lubdhvani_bundle_name.Reads as name-reads
use Rattle.lubdhvani.proofs.bundle.lubdhvani_bundle_rows.Kinds as rows_kinds
use Rattle.lubdhvani.proofs.bundle.lubdhvani_bundle_rows.Reads as rows-reads

-- number with length, and bundle
pub lubdhvani-bundle-write-single : (κs : Lfts 3) (a : Dens κs write-kinds.ps) (r r' : Measured)
    (x x' : AtExit (ended_of 3 write-kinds.ps write-kinds.r) κs)
    → write-reads.Post κs a r x → write-reads.Post κs a r' x' → (r ≡ r') × (x.1.1.0.now ≡ x'.1.1.0.now)
lubdhvani-bundle-write-single κs a r r' x x' p q = (p.0 ∙ sym q.0, p.1 ∙ sym q.1)

-- number with length
pub lubdhvani-bundle-read-single : (κs : Lfts 1) (a : Dens κs read-kinds.ps) (r r' : Measured)
    (x x' : AtExit (ended_of 1 read-kinds.ps read-kinds.r) κs)
    → read-reads.Post κs a r x → read-reads.Post κs a r' x' → r ≡ r'
lubdhvani-bundle-read-single κs a r r' x x' p q = p ∙ sym q

-- number and digest
pub lubdhvani-bundle-digest-single : (κs : Lfts 2) (a : Dens κs digest-kinds.ps) (r r' : ℕ)
    (x x' : AtExit (ended_of 2 digest-kinds.ps digest-kinds.r) κs)
    → digest-reads.Post κs a r x → digest-reads.Post κs a r' x' → (r ≡ r') × (x.1.0.now ≡ x'.1.0.now)
lubdhvani-bundle-digest-single κs a r r' x x' p q = (p.0 ∙ sym q.0, p.1 ∙ sym q.1)

-- place with length
pub lubdhvani-bundle-name-single : (κs : Lfts 1) (a : Dens κs name-kinds.ps) (r r' : Part)
    (x x' : AtExit (ended_of 1 name-kinds.ps name-kinds.r) κs)
    → name-reads.Post κs a r x → name-reads.Post κs a r' x' → r ≡ r'
lubdhvani-bundle-name-single κs a r r' x x' p q = p ∙ sym q

pub lubdhvani-bundle-rows-single : (κs : Lfts 1) (a : Dens κs rows_kinds.ps) (r r' : Part)
    (x x' : AtExit (ended_of 1 rows_kinds.ps rows_kinds.r) κs)
    → rows-reads.Post κs a r x → rows-reads.Post κs a r' x' → r ≡ r'
lubdhvani-bundle-rows-single κs a r r' x x' p q = p ∙ sym q
