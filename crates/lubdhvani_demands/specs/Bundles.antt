-- Order W1 over the exported calls: what the writer makes is read, with its name and rows where the part calls say; and what is read the writer makes again,
-- of the name and rows that the part calls give. Assumes nothing.
use Rattle.std.specs.Prelude.{◌≡◌, refl, List, [], ℕ, ◌≤◌, ◌<◌, length, get_or, take, drop, Ok, Err, Result}
use Rattle.std.proofs.Common.{sym, ap, ◌∙◌, arith}
use Rattle.base_lists.specs.Buffers.{over}
use Rattle.bundle_spec.specs.Bundles.{characters}
use Rattle.bundle_spec.specs.Lengths.{longest_bundle}
use Rattle.bundle_read.specs.declared.BundleFault.{BundleFault}
use Rattle.bundle_read.specs.declared.BundleFault.TheVariants as bundle-is
use Rattle.bundle_read.specs.Answers as judging
use Rattle.bundle_write.specs.declared.BundleRefusal.{BundleRefusal}
use Rattle.bundle_write.specs.declared.BundleRefusal.TheVariants as written_is
use Rattle.bundle_write.specs.Answers.{write_number, write_length, write_answer, name_part, rows_part, name_in, rows_in}
use Rattle.bundle_write.specs.Exactly.{rows_over, bundle-read-written, bundle-written-read}
use Rattle.lubdhvani.specs.Answers.{bundled, judged, part_out}
use Rattle.lubdhvani.specs.declared.answers.Measured.{Measured}
use Rattle.lubdhvani.specs.declared.bundle.Part.{Part}
use Rattle.lubdhvani_demands.specs.Promises.{BundleWrites, BundleReads, BundleNames, BundleRows}

-- a number of 0 is done, and no refusal
written-done : (a : Result ℕ BundleRefusal) → write_number a ≡ 0 → a ≡ Ok (write_length a)
written-done (Ok n) e = refl
written-done (Err written_is.Shape) e = absurd (omega (arith, e))
written-done (Err written_is.Alike) e = absurd (omega (arith, e))
written-done (Err written_is.NoRoom) e = absurd (omega (arith, e))

read_done : (a : Result ℕ BundleFault) → judging.read_number a ≡ 0 → a ≡ Ok (judging.length_of a)
read_done (Ok n) e = refl
read_done (Err bundle-is.Shape) e = absurd (omega (arith, e))
read_done (Err bundle-is.Alike) e = absurd (omega (arith, e))

-- the bytes of a part
abbrev pub part_of : List ℕ → Part → List ℕ
part_of b p = take p.length (drop p.first b)

-- the part calls give the name, and a character's rows
pub name-part : (b : List ℕ) {p : Part} → BundleNames b p → part_of b p ≡ name_in b
unfolding name_in
name-part b e = ap (part_of b) e

pub rows-part : (b : List ℕ) (c : ℕ) {p : Part} → BundleRows b c p → part_of b p ≡ rows_in b c
unfolding rows_in
rows-part b c e = ap (part_of b) e

-- what the writer makes is read
pub c-bundle-read : (name rows o : List ℕ) (w : Measured) (o' : List ℕ) → BundleWrites name rows o w o' → w.number ≡ 0
    → (r : Measured) → BundleReads (take w.length o') r → (p : Part) → BundleNames (take w.length o') p
    → (r ≡ record { number = 0; length = length name }) × (part_of (take w.length o') p ≡ name) × (rows_over (take w.length o') characters ≡ rows)
c-bundle-read name rows o w o' p e r q part named =
    let a = write_answer name rows o in
    let done : a ≡ Ok w.length =
    written-done a (sym (ap (λ (x : Measured). x.number) p.0) ∙ e) ∙ ap Ok (sym (ap (λ (x : Measured). x.length) p.0)) in
    let b-is : take w.length o' ≡ _ = ap (take w.length) p.1 in
    let z = bundle-read-written name rows o w.length done in (
      q ∙ ap judged (ap judging.read_answer b-is ∙ z.named),
      name-part (take w.length o') named ∙ ap name_in b-is ∙ z.name-is,
      ap (λ (t : List ℕ). rows_over t characters) b-is ∙ z.rows_are,
    )

-- and what is read the writer makes
pub c-bundle-written : (b : List ℕ) (r : Measured) → BundleReads b r → r.number ≡ 0 → (o : List ℕ) → longest_bundle ≤ length o
    → (w : Measured) (o' : List ℕ) → BundleWrites (name_in b) (rows_over b characters) o w o' → (w ≡ record { number = 0; length = length b }) × (o' ≡ over b o)
c-bundle-written b r q e o room w o' p =
    let z = bundle-written-read b o (judging.length_of (judging.read_answer b)) (read_done (judging.read_answer b) (sym (ap (λ (x : Measured). x.number) q) ∙ e))
    room in
    (p.0 ∙ ap bundled z.0, p.1 ∙ z.1)
