-- A bundle's rows stand where `show` takes them from, and its name has the length read. Assumes nothing.
use Rattle.std.specs.Prelude.{◌≡◌, List, ℕ, ◌+◌, ◌*◌, ◌/◌, ◌%◌, ◌≤◌, ◌<◌, length, drop, Ok, Err}
use Rattle.std.proofs.Common.{sym, ◌∙◌, arith, get_or-drop, get_or-take}
use Rattle.std.proofs.Math.Path.{ap}
use Rattle.std.proofs.Math.ListN.{get_or}
use borrow.Author.Tests.{lt-ltb, le-ltb}
use Rattle.base_lists.specs.Buffers.{over}
use Rattle.base_fields.specs.Fields.{head_length}
use Rattle.bundle_spec.specs.Bundles.{glyph_rows, characters, all_rows, glyph_fields, bundle_of}
use Rattle.bundle_spec.specs.Lengths.{glyph_field, Fitting}
use Rattle.bundle_spec.specs.Places.{rows_at, glyphs-place, rows-place}
use Rattle.bundle_read.specs.declared.BundleFault.{BundleFault}
use Rattle.bundle_read.specs.declared.BundleFault.TheVariants.{Shape, Alike}
use Rattle.bundle_read.specs.Answers.{read_answer}
use Rattle.bundle_read.proofs.Exactly.{read-written}
use Rattle.bundle_write.specs.Answers.{name_in}
use Rattle.bundle_write.specs.Exactly.{rows_over, name-given, all-given}
use Rattle.bundle_draw.specs.declared.ShowRefusal.TheVariants as shown-is
use Rattle.bundle_draw.specs.Drawing.{drawing_length, longest_drawing, listed, drawing}
use Rattle.bundle_draw.specs.Answers.{refusal_for, show_answer, show_out, row_place, gathered_from}
use Rattle.bundle_draw.specs.Listed.{listed-agree, listed-self}

module _ (name r : List ℕ) (f : Fitting name r) where
  row_is : (k : ℕ) → k < all_rows → get_or (bundle_of name r) (row_place (length name) k) 0 ≡ get_or r k 0
  row_is k h =
      let i = k / glyph_rows in
      let j = k % glyph_rows in
      let n = length name in
      let place : row_place n k ≡ head_length + n + (glyph_field * i + rows_at + j) = omega arith in
      let back : glyph_rows * i + j ≡ k = omega arith in
      let b = bundle_of name r in
      let g = glyph_fields characters r in
      ap (λ (m : ℕ). get_or b m 0) place
      ∙ sym (get_or-drop (head_length + n) b (glyph_field * i + rows_at + j) 0)
      ∙ ap (λ (s : List ℕ). get_or s (glyph_field * i + rows_at + j) 0) (glyphs-place name r)
      ∙ sym (get_or-drop (glyph_field * i + rows_at) g j 0)
      ∙ sym (get_or-take glyph_rows (drop (glyph_field * i + rows_at) g) j 0 (omega arith))
      ∙ ap (λ (s : List ℕ). get_or s j 0) (rows-place characters r i f.rows_are (omega arith))
      ∙ get_or-take glyph_rows (drop (glyph_rows * i) r) j 0 (omega arith)
      ∙ get_or-drop (glyph_rows * i) r j 0
      ∙ ap (λ (m : ℕ). get_or r m 0) back

  rows_are : gathered_from (bundle_of name r) (length name) ≡ r
  unfolding gathered_from
  rows_are =
      listed-agree (λ k. get_or (bundle_of name r) (row_place (length name) k) 0) (λ k. get_or r k 0) all_rows row_is
      ∙ ap (listed (λ k. get_or r k 0)) (sym f.rows_are) ∙ listed-self r

pub gathered-rows : (b : List ℕ) (n : ℕ) → read_answer b ≡ Ok n → gathered_from b n ≡ rows_over b characters
gathered-rows b n e =
    let w = read-written b n e in
    ap (λ (s : List ℕ). gathered_from s n) w.is ∙ ap (gathered_from (bundle_of w.name w.rows)) (sym w.long)
    ∙ rows_are w.name w.rows w.fits
    ∙ sym (ap (λ (s : List ℕ). rows_over s characters) w.is ∙ all-given w.name w.rows w.fits w.unlike)

pub name-length : (b : List ℕ) (n : ℕ) → read_answer b ≡ Ok n → length (name_in b) ≡ n
name-length b n e =
    let w = read-written b n e in
    ap length (ap name_in w.is ∙ name-given w.name w.rows w.fits w.unlike) ∙ w.long

-- the answers of `show`, in their order
module _ (b o : List ℕ) where
  pub show-no-bundle : (f : BundleFault) → read_answer b ≡ Err f → (Err (refusal_for f) ≡ show_answer b o) × (o ≡ show_out b o)
  unfolding show_answer show_out
  show-no-bundle Shape e = (rw e, rw e)
  show-no-bundle Alike e = (rw e, rw e)

  pub show-shape : read_answer b ≡ Err Shape → (Err shown-is.Shape ≡ show_answer b o) × (o ≡ show_out b o)
  show-shape = show-no-bundle Shape

  pub show-alike : read_answer b ≡ Err Alike → (Err shown-is.Alike ≡ show_answer b o) × (o ≡ show_out b o)
  show-alike = show-no-bundle Alike

  pub show-room : (n : ℕ) → read_answer b ≡ Ok n → length o < longest_drawing → (Err shown-is.NoRoom ≡ show_answer b o) × (o ≡ show_out b o)
  unfolding show_answer show_out
  show-room n e h = let l = lt-ltb (length o) longest_drawing h in (rw (e, l), rw (e, l))

  pub show-done : (n : ℕ) → read_answer b ≡ Ok n → longest_drawing ≤ length o
      → (Ok (drawing_length n) ≡ show_answer b o) × (over (drawing (name_in b) (rows_over b characters)) o ≡ show_out b o)
  unfolding show_answer show_out
  show-done n e h = let l = le-ltb (length o) longest_drawing h in (rw (e, l), rw (e, l))
