-- What the writer makes is read, with its name and rows, and what is read the writer makes, of the name and rows that the part calls give.
-- Assumes nothing.
use Rattle.std.specs.Prelude.{◌≡◌, refl, Bool, true, false, cond, ℕ, zero, suc, ◌+◌, ◌*◌, ◌≤◌, ◌<◌, ltb, get_or, drop, Ok, Err, Result}
use Rattle.std.proofs.Common.{sym, ap₂, ◌∙◌, take-append-drop}
use Rattle.std.proofs.Math.Path.{ap}
use mathlib.Core.List.{List, [], ◌∷◌, ◌++◌}
use native.Mathlib.Omega.{arith}
use Rattle.std.proofs.Math.ListN.{length, take, drop_of_length-le}
use Rattle.std.proofs.Math.Seq.{drop-drop}
use borrow.Author.Tests.{lt-ltb, le-ltb, ltb-false}
use Rattle.base_lists.specs.Walk.{at}
use Rattle.base_lists.specs.Buffers.{over}
use Rattle.base_lists.specs.Over.{take-over}
use Rattle.digest_spec.specs.Instances.{DIGEST}
use Rattle.digest_spec.specs.Hashing.{digest_of}
use Rattle.base_fields.specs.Fields.{head_length}
use Rattle.bundle_spec.specs.Bundles.{glyph_rows, characters, glyph_count, bundle_of, fitting, alike}
use Rattle.bundle_spec.specs.Lengths.{glyph_field, beside_name, longest_bundle, Fitting, fitting-is, length-bundle, bundle-at-most}
use Rattle.bundle_spec.specs.Places.{rows_at, index_of, index-character, name-place, glyphs-place, rows-place}
use Rattle.bundle_spec.specs.Exactly.{bundle-one-to-one}
use Rattle.bundle_spec.specs.Alike.{glyph}
use Rattle.bundle_read.specs.declared.BundleFault.{BundleFault}
use Rattle.bundle_read.specs.Answers.{read_answer}
use Rattle.bundle_read.proofs.Exactly.{written_read, read-written, read_length}
use Rattle.bundle_write.specs.declared.BundleRefusal.TheVariants as written_is
use Rattle.bundle_write.specs.Answers.{write_answer, write_out, font_instance, bundle_digest, name_by, name_part}
use Rattle.bundle_write.specs.Answers.{rows_by, rows_part, part_of, name_in, rows_in, digest_answer, digest_out}
use Rattle.bundle_write.specs.Steps.{given_answer, given_out}
use Rattle.bundle_write.specs.Order.{given, of-bundle}

-- a writer's answer that is done tells of a name and rows that fit, of glyphs that differ, of room, and of the length
pub record Makes (name r o : List ℕ) (n : ℕ) : Type 0 where
  pub fits : Fitting name r
  pub unlike : alike r ≡ false
  pub room : longest_bundle ≤ length o
  pub long : n ≡ length (bundle_of name r)

pub done-makes : (name r o : List ℕ) (n : ℕ) → write_answer name r o ≡ Ok n → Makes name r o n
unfolding write_answer
done-makes name r o n = go (fitting name r) refl (alike r) refl (ltb (length o) longest_bundle) refl
  where
    go : (t : Bool) → fitting name r ≡ t → (u : Bool) → alike r ≡ u → (v : Bool) → ltb (length o) longest_bundle ≡ v
        → cond t (cond u (Err written_is.Alike) (cond v (Err written_is.NoRoom) (Ok (length (bundle_of name r))))) (Err written_is.Shape) ≡ Ok n
        → Makes name r o n
    go true p false q false s e =
        record { fits = fitting-is name r p; unlike = q; room = ltb-false (length o) longest_bundle s; long = cc e }
    go true p false q true s e = absurd (let z : ◌≡◌ {A = ℕ} 0 1 = cc e in omega arith)
    go true p true q v s e = absurd (let z : ◌≡◌ {A = ℕ} 0 1 = cc e in omega arith)
    go false p u q v s e = absurd (let z : ◌≡◌ {A = ℕ} 0 1 = cc e in omega arith)

-- and leaves the bundle over the buffer's start
made_bytes : (name r o : List ℕ) (n : ℕ) → write_answer name r o ≡ Ok n → take n (write_out name r o) ≡ bundle_of name r
unfolding write_out
made_bytes name r o n e = rw (e, (done-makes name r o n e).long) (take-over (bundle_of name r) o (length (bundle_of name r)) refl)

-- the name and the rows that the part calls give of a bundle
module _ (name r : List ℕ) (f : Fitting name r) (u : alike r ≡ false) where
  pub name-given : name_in (bundle_of name r) ≡ name
  unfolding name_in name_part
  name-given = ap (λ (x : Result ℕ BundleFault). part_of (bundle_of name r) (name_by x (bundle_of name r))) (written_read f u) ∙ name-place name r

  pub rows-given : (i : ℕ) → i < glyph_count → rows_in (bundle_of name r) (get_or characters i 0) ≡ glyph r i
  unfolding rows_in rows_part
  rows-given i h =
      ap (λ (x : Result ℕ BundleFault). part_of (bundle_of name r) (rows_by x (index_of (get_or characters i 0) characters) (bundle_of name r))) (written_read f u)
      ∙ rw (index-character i h, lt-ltb i glyph_count h)
      (ap (take glyph_rows) (sym (drop-drop (glyph_field * i + rows_at) (head_length + length name) (bundle_of name r)))
      ∙ ap (λ (t : List ℕ). take glyph_rows (drop (glyph_field * i + rows_at) t)) (glyphs-place name r)
      ∙ rows-place characters r i f.rows_are h)

-- the rows of some characters one behind the other
unfoldable pub rows_over : List ℕ → List ℕ → List ℕ
rows_over b [] = []
rows_over b (c ∷ cs) = rows_in b c ++ rows_over b cs

-- those of all characters are all rows
module _ (name r : List ℕ) (f : Fitting name r) (u : alike r ≡ false) where
  last_step : (i : ℕ) → glyph_count ≤ i → rows_over (bundle_of name r) (drop i characters) ≡ drop (glyph_rows * i) r
  unfolding rows_over
  last_step i h =
      rw (drop_of_length-le characters {i = i} h, drop_of_length-le r {i = glyph_rows * i} (omega (arith, f.rows_are)))

  one-step : (i : ℕ) → i < glyph_count → rows_over (bundle_of name r) (drop (i + 1) characters) ≡ drop (glyph_rows * (i + 1)) r
      → rows_over (bundle_of name r) (drop i characters) ≡ drop (glyph_rows * i) r
  unfolding rows_over
  one-step i h e =
      let on : glyph_rows * (i + 1) ≡ glyph_rows * i + glyph_rows = omega arith in
      rw (at characters i h, e, rows-given name r f u i h, on, ← drop-drop glyph_rows (glyph_rows * i) r) (take-append-drop glyph_rows (drop (glyph_rows * i) r))

  from : (k i : ℕ) → i + k ≡ glyph_count → rows_over (bundle_of name r) (drop i characters) ≡ drop (glyph_rows * i) r
  from zero i e = last_step i (omega arith)
  from (suc k) i e = one-step i (omega arith) (from k (i + 1) (omega arith))

  pub all-given : rows_over (bundle_of name r) characters ≡ r
  all-given = from glyph_count 0 refl

-- what the writer makes is read, with its name and rows
pub record Read (name r b : List ℕ) : Type 0 where
  pub named : read_answer b ≡ Ok (length name)
  pub name-is : name_in b ≡ name
  pub rows_are : rows_over b characters ≡ r

pub bundle-read-written : (name r o : List ℕ) (n : ℕ) → write_answer name r o ≡ Ok n → Read name r (take n (write_out name r o))
bundle-read-written name r o n e =
    let m = done-makes name r o n e in
    rw (made_bytes name r o n e) (record {
      named = written_read m.fits m.unlike;
      name-is = name-given name r m.fits m.unlike;
      rows_are = all-given name r m.fits m.unlike;
    })

-- what is read, the writer makes of the name and rows that the part calls give, in any buffer with room
pub bundle-written-read : (b o : List ℕ) (n : ℕ) → read_answer b ≡ Ok n → longest_bundle ≤ length o
    → (write_answer (name_in b) (rows_over b characters) o ≡ Ok (length b)) × (write_out (name_in b) (rows_over b characters) o ≡ over b o)
bundle-written-read b o n e room =
    let w = read-written b n e in
    let name-is : name_in b ≡ w.name = ap name_in w.is ∙ name-given w.name w.rows w.fits w.unlike in
    let rows_are : rows_over b characters ≡ w.rows =
    ap (λ (t : List ℕ). rows_over t characters) w.is ∙ all-given w.name w.rows w.fits w.unlike in
    let told = given w.name w.rows o w.fits.name-rule w.fits.rows_are _ (written_read w.fits w.unlike) in
    let big = le-ltb (length o) longest_bundle room in
    let answer : given_answer (bundle_of w.name w.rows) o ≡ Ok (length (bundle_of w.name w.rows)) = rw big in
    let out : given_out (bundle_of w.name w.rows) o ≡ over (bundle_of w.name w.rows) o = rw big in (
      ap₂ (λ (x y : List ℕ). write_answer x y o) name-is rows_are ∙ sym told.0 ∙ answer
          ∙ ap (λ (t : List ℕ). Ok (length t)) (sym w.is),
      ap₂ (λ (x y : List ℕ). write_out x y o) name-is rows_are ∙ sym told.1 ∙ out ∙ ap (λ (t : List ℕ). over t o) (sym w.is),
    )

-- two accepted inputs that differ in name or rows never give one bundle
pub no-shared-bundle : (name r o : List ℕ) (n : ℕ) (name' r' o' : List ℕ) (n' : ℕ)
    → write_answer name r o ≡ Ok n → write_answer name' r' o' ≡ Ok n'
    → take n (write_out name r o) ≡ take n' (write_out name' r' o') → (name ≡ name') × (r ≡ r')
no-shared-bundle name r o n name' r' o' n' e e' q =
    bundle-one-to-one (done-makes name r o n e).fits (done-makes name' r' o' n' e').fits
    (sym (made_bytes name r o n e) ∙ q ∙ made_bytes name' r' o' n' e')

-- a bundle has 185 bytes and its name, at most 217
pub written-length : (name r o : List ℕ) (n : ℕ) → write_answer name r o ≡ Ok n → (n ≡ beside_name + length name) × (n ≤ longest_bundle)
written-length name r o n e =
    let m = done-makes name r o n e in
    (m.long ∙ length-bundle name r m.fits.rows_are, omega (arith, m.long, bundle-at-most m.fits))

-- the digest of a bundle is document 01's instance 1 digest of all of its bytes
pub digest-of-bundle : (b o : List ℕ) (n : ℕ) → read_answer b ≡ Ok n → DIGEST ≤ length o
    → (digest_answer b o ≡ Ok tt) × (digest_out b o ≡ over (digest_of font_instance b) o)
unfolding bundle_digest
digest-of-bundle b o n e room =
    let told = of-bundle b o (omega (arith, read_length b n e)) n e in
    let big = le-ltb (length o) DIGEST room in
    (sym told.0 ∙ rw big, sym told.1 ∙ rw big)
