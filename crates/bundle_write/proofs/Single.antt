-- The promises of the bundle's calls, as the check reads them (`Post`), admit a single answer: of a part, the same bytes at the same address.
-- Assumes nothing.
use Rattle.std.specs.Prelude.{Result, ⊤}
use mathlib.Core.Path.{◌≡◌, sym, ◌∙◌}
use mathlib.Core.List.{List}
use Prim.Native.Nat.{ℕ}
use contract.Lifetimes.{Lfts}
use denote.Ref.{Bor}
use denote.Triple.Clauses.{AtExit}
use borrow.Fn.Kinds.{Dens, ended_of}
use Rattle.bundle_write.specs.declared.BundleRefusal.{BundleRefusal}
use Rattle.bundle_write.specs.declared.FontRefusal.{FontRefusal}
use Rattle.bundle_write.specs.declared.Part.{Part}
use Rattle.bundle_write.proofs.write.Kinds as write-kinds
use Rattle.bundle_write.proofs.write.Reads as write-reads
use Rattle.bundle_write.proofs.digest_of.Kinds as digest-kinds
use Rattle.bundle_write.proofs.digest_of.Reads as digest-reads
use Rattle.bundle_write.proofs.name_part.Kinds as name-part-kinds
use Rattle.bundle_write.proofs.name_part.Reads as name-part-reads
use Rattle.bundle_write.proofs.rows_part.Kinds as rows-part-kinds
use Rattle.bundle_write.proofs.rows_part.Reads as rows-part-reads
use Rattle.bundle_write.proofs.name.Kinds as name-kinds
use Rattle.bundle_write.proofs.name.Reads as name-reads
use Rattle.bundle_write.proofs.rows.Kinds as rows_kinds
use Rattle.bundle_write.proofs.rows.Reads as rows-reads
use Rattle.bundle_write.proofs.read_number.Kinds as read-number-kinds
use Rattle.bundle_write.proofs.read_number.Reads as read-number-reads
use Rattle.bundle_write.proofs.read_length.Kinds as read-length-kinds
use Rattle.bundle_write.proofs.read_length.Reads as read-length-reads
use Rattle.bundle_write.proofs.write_number.Kinds as write-number-kinds
use Rattle.bundle_write.proofs.write_number.Reads as write-number-reads
use Rattle.bundle_write.proofs.write_length.Kinds as write-length-kinds
use Rattle.bundle_write.proofs.write_length.Reads as write-length-reads
use Rattle.bundle_write.proofs.digest_number.Kinds as digest-number-kinds
use Rattle.bundle_write.proofs.digest_number.Reads as digest-number-reads

pub write-single : (κs : Lfts 3) (a : Dens κs write-kinds.ps) (r r' : Result ℕ BundleRefusal) (x x' : AtExit (ended_of 3 write-kinds.ps write-kinds.r) κs)
    → write-reads.Post κs a r x → write-reads.Post κs a r' x' → (r ≡ r') × (x.1.1.0.now ≡ x'.1.1.0.now)
write-single κs a r r' x x' p q = (p.0 ∙ sym q.0, p.1 ∙ sym q.1)

pub digest-of-single : (κs : Lfts 2) (a : Dens κs digest-kinds.ps) (r r' : Result ⊤ FontRefusal) (x x' : AtExit (ended_of 2 digest-kinds.ps digest-kinds.r) κs)
    → digest-reads.Post κs a r x → digest-reads.Post κs a r' x' → (r ≡ r') × (x.1.0.now ≡ x'.1.0.now)
digest-of-single κs a r r' x x' p q = (p.0 ∙ sym q.0, p.1 ∙ sym q.1)

pub name-part-single : (κs : Lfts 1) (a : Dens κs name-part-kinds.ps) (r r' : Part) (x x' : AtExit (ended_of 1 name-part-kinds.ps name-part-kinds.r) κs)
    → name-part-reads.Post κs a r x → name-part-reads.Post κs a r' x' → r ≡ r'
name-part-single κs a r r' x x' p q = p ∙ sym q

pub rows-part-single : (κs : Lfts 1) (a : Dens κs rows-part-kinds.ps) (r r' : Part) (x x' : AtExit (ended_of 1 rows-part-kinds.ps rows-part-kinds.r) κs)
    → rows-part-reads.Post κs a r x → rows-part-reads.Post κs a r' x' → r ≡ r'
rows-part-single κs a r r' x x' p q = p ∙ sym q

pub name-single : (κs : Lfts 1) (a : Dens κs name-kinds.ps) (r r' : Bor (List ℕ)) (x x' : AtExit (ended_of 1 name-kinds.ps name-kinds.r) κs)
    → name-reads.Post κs a r x → name-reads.Post κs a r' x' → (r.now ≡ r'.now) × (r.ref_ptr ≡ r'.ref_ptr)
name-single κs a r r' x x' p q = (p.0 ∙ sym q.0, p.1 ∙ sym q.1)

pub rows-single : (κs : Lfts 1) (a : Dens κs rows_kinds.ps) (r r' : Bor (List ℕ)) (x x' : AtExit (ended_of 1 rows_kinds.ps rows_kinds.r) κs)
    → rows-reads.Post κs a r x → rows-reads.Post κs a r' x' → (r.now ≡ r'.now) × (r.ref_ptr ≡ r'.ref_ptr)
rows-single κs a r r' x x' p q = (p.0 ∙ sym q.0, p.1 ∙ sym q.1)

-- numbers and lengths
pub read-number-single : (κs : Lfts 0) (a : Dens κs read-number-kinds.ps) (r r' : ℕ) (x x' : AtExit (ended_of 0 read-number-kinds.ps read-number-kinds.r) κs)
    → read-number-reads.Post κs a r x → read-number-reads.Post κs a r' x' → r ≡ r'
read-number-single κs a r r' x x' p q = p ∙ sym q

pub read-length-single : (κs : Lfts 0) (a : Dens κs read-length-kinds.ps) (r r' : ℕ) (x x' : AtExit (ended_of 0 read-length-kinds.ps read-length-kinds.r) κs)
    → read-length-reads.Post κs a r x → read-length-reads.Post κs a r' x' → r ≡ r'
read-length-single κs a r r' x x' p q = p ∙ sym q

pub write-number-single : (κs : Lfts 0) (a : Dens κs write-number-kinds.ps) (r r' : ℕ) (x x' : AtExit (ended_of 0 write-number-kinds.ps write-number-kinds.r) κs)
    → write-number-reads.Post κs a r x → write-number-reads.Post κs a r' x' → r ≡ r'
write-number-single κs a r r' x x' p q = p ∙ sym q

pub write-length-single : (κs : Lfts 0) (a : Dens κs write-length-kinds.ps) (r r' : ℕ) (x x' : AtExit (ended_of 0 write-length-kinds.ps write-length-kinds.r) κs)
    → write-length-reads.Post κs a r x → write-length-reads.Post κs a r' x' → r ≡ r'
write-length-single κs a r r' x x' p q = p ∙ sym q

pub digest-number-single : (κs : Lfts 0) (a : Dens κs digest-number-kinds.ps) (r r' : ℕ) (x x' : AtExit
    (ended_of 0 digest-number-kinds.ps digest-number-kinds.r) κs)
    → digest-number-reads.Post κs a r x → digest-number-reads.Post κs a r' x' → r ≡ r'
digest-number-single κs a r r' x x' p q = p ∙ sym q
