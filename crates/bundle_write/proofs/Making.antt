-- A bundle made field by field in a room for one, as `made` goes. Assumes nothing.
use mathlib.Core.Path.{◌≡◌, refl, ap, sym, ◌∙◌}
use mathlib.Core.Bool.{true}
use mathlib.Core.List.{List, [], ◌∷◌, ◌++◌, append_assoc, append-nil}
use Prim.Native.Nat.{ℕ, zero, suc, ◌+◌, ◌*◌, ◌≤◌, ◌<◌}
use native.Mathlib.Nat.{not-suc-le-zero, le_of_suc-le-suc}
use native.Mathlib.Numerals.{add-one}
use native.Mathlib.Omega.{arith}
use lib.ListN.{length, get_or, take, drop, length-append, length-drop}
use lib.Seq.{length-take-le, take_all, drop-drop}
use Rattle.base_lists.specs.Over.{take-over, over-length}
use Rattle.base_fields.specs.Fields.{head_length, field, field_end, field_out}
use Rattle.base_fields.specs.Laws.{length-field}
use Rattle.base_fields.specs.Laying.{Laid, laid_none, laid-field}
use Rattle.bundle_spec.specs.Bundles.{name_tag, glyph_tag, glyph_rows, glyph_length, characters, glyph_count, all_rows, takes, glyph_fields, bundle_of}
use Rattle.bundle_spec.specs.Lengths.{glyph_field, beside_name, longest_bundle, name-taken, length-glyphs, length-bundle}

-- the fields of one glyph more
glyphs-more : (cs r : List ℕ) (i : ℕ) → i < length cs
    → glyph_fields (take (suc i) cs) r ≡ glyph_fields (take i cs) r ++ field glyph_tag (get_or cs i 0 ∷ take glyph_rows (drop (glyph_rows * i) r))
unfolding glyph_fields
glyphs-more [] r i h = absurd (not-suc-le-zero h)
glyphs-more (c ∷ cs) r zero h = append-nil (field glyph_tag (c ∷ take glyph_rows r))
glyphs-more (c ∷ cs) r (suc i) h =
    let down : glyph_rows * suc i ≡ glyph_rows + glyph_rows * i = omega arith in
    ap (λ (t : List ℕ). field glyph_tag (c ∷ take glyph_rows r) ++ t)
    (glyphs-more cs (drop glyph_rows r) i (le_of_suc-le-suc h) ∙ rw (drop-drop (glyph_rows * i) glyph_rows r, ← down))
    ∙ sym (append_assoc (field glyph_tag (c ∷ take glyph_rows r)) (glyph_fields (take i cs) (drop glyph_rows r)) _)

-- the name with the first i glyphs
unfoldable pub so_far : List ℕ → List ℕ → ℕ → List ℕ
so_far name r i = field name_tag name ++ glyph_fields (take i characters) r

snoc : (name r : List ℕ) (i : ℕ) → i < glyph_count
    → so_far name r (suc i) ≡ so_far name r i ++ field glyph_tag (get_or characters i 0 ∷ take glyph_rows (drop (glyph_rows * i) r))
unfolding so_far
snoc name r i h =
    ap (λ (t : List ℕ). field name_tag name ++ t) (glyphs-more characters r i h) ∙ sym (append_assoc (field name_tag name) (glyph_fields (take i characters) r) _)

module _ (room name r : List ℕ) (long : length room ≡ longest_bundle) (rule : takes name_tag (length name) ≡ true) (rows_are : length r ≡ all_rows) where
  length_so_far : (i : ℕ) → i ≤ glyph_count → length (so_far name r i) ≡ head_length + length name + glyph_field * i
  unfolding so_far
  length_so_far i h =
      let n : length (take i characters) ≡ i = length-take-le i characters h in
      length-append (field name_tag name) (glyph_fields (take i characters) r)
      ∙ omega (arith, length-field name_tag name, length-glyphs (take i characters) r (omega (arith, n)), n)

  pub begun : (out : List ℕ) (at : ℕ) → at ≡ field_end room 0 name_tag name → out ≡ field_out room 0 name_tag name → Laid room out (so_far name r 0) at
  unfolding so_far glyph_fields
  begun out at e g =
      rw (append-nil (field name_tag name))
      (laid-field name_tag name (laid_none room)
      (record { both = omega (arith, length-field name_tag name, long, name-taken (length name) rule) })
      (omega (arith, name-taken (length name) rule)) e g)

  pub one_more : (out out' v : List ℕ) (at at' i : ℕ) → i < glyph_count → Laid room out (so_far name r i) at
      → v ≡ get_or characters i 0 ∷ take glyph_rows (drop (glyph_rows * i) r)
      → at' ≡ field_end out at glyph_tag v → out' ≡ field_out out at glyph_tag v → Laid room out' (so_far name r (i + 1)) at'
  one_more out out' v at at' i h l is e g =
      let nine : length (take glyph_rows (drop (glyph_rows * i) r)) ≡ glyph_rows =
      length-take-le glyph_rows (drop (glyph_rows * i) r) (omega (arith, length-drop (glyph_rows * i) r)) in
      let ten : length v ≡ glyph_length = ap length is ∙ omega arith in
      let grown : so_far name r (i + 1) ≡ so_far name r i ++ field glyph_tag v =
      rw (add-one, is) (snoc name r i h) in
      rw grown
      (laid-field glyph_tag v l
      (record {
        both =
            omega (
              arith,
              length_so_far i (omega arith),
              length-field glyph_tag v,
              long,
              name-taken (length name) rule,
            );
      })
      (omega (arith, ten)) e g)

  pub keeps : {out w : List ℕ} {at : ℕ} → Laid room out w at → length out ≡ longest_bundle
  keeps {out} {w} l = ap length l.held ∙ over-length w room l.fits ∙ long

  pub whole : (out : List ℕ) (at i : ℕ) → glyph_count ≤ i → Laid room out (so_far name r i) at → take (length (bundle_of name r)) out ≡ bundle_of name r
  unfolding so_far bundle_of
  whole out at i h l =
      let all : take i characters ≡ characters = take_all i characters h in
      rw (l.held, all) (take-over (bundle_of name r) room (length (bundle_of name r)) refl)

-- the bundle cut out of its room
pub first_part : (name r b : List ℕ) → length r ≡ all_rows → take (length (bundle_of name r)) b ≡ bundle_of name r
    → take (beside_name + length name) b ≡ bundle_of name r
first_part name r b h e =
    let n : beside_name + length name ≡ length (bundle_of name r) = omega (arith, length-bundle name r h) in
    rw n e
