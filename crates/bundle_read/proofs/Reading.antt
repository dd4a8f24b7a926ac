-- A field looked for at a place of some bytes, and a glyph in it, test by test as `value_at` and `glyph_at` go. Assumes nothing.
use mathlib.Core.Path.{◌≡◌, refl, ap, sym, ◌∙◌}
use mathlib.Core.Bool.{Bool, true, false, cond}
use mathlib.Core.List.{List, [], ◌∷◌}
use Prim.Native.Nat.{ℕ, ◌+◌, ◌-◌, ◌*◌, ◌≤◌, ◌<◌}
use native.Mathlib.Omega.{arith}
use lib.Dec.{eqb}
use lib.ListN.{length, get_or, take, drop, length-drop}
use lib.Seq.{length-take-le, drop-drop, take_all}
use borrow.Author.Tests.{eq-eqb, ne_eqb, le-leb, lt-leb}
use Rattle.base_lists.specs.Walk.{at}
use Rattle.base_fields.specs.Fields.{head_length, high_byte, Front, value, no_field, front}
use Rattle.base_fields.specs.Laws.{head_at, front-few, front-stands}
use Rattle.bundle_spec.specs.Bundles.{glyph_tag, glyph_rows, glyph_length, takes, dotted, glyph_of}
use Rattle.bundle_spec.specs.Lengths.{glyph_field, glyph-taken}
use Rattle.bundle_spec.specs.Places.{rows_at}
use Rattle.bundle_read.specs.Answers.{length_found, is_field}

-- the part of some bytes from a place on tells what the bytes from there on do
pub read_off : (b : List ℕ) (at tag : ℕ) → at ≤ length b → {n : ℕ} → n ≡ length_found (front takes tag (take (length b - at) (drop at b)))
    → n ≡ length_found (front takes tag (drop at b))
read_off b at tag h e = rw (take_all (length b - at) (drop at b) (rw length-drop (omega arith))) at e

module _ (b : List ℕ) (i tag : ℕ) (inside : i ≤ length b) where
  abbrev found : ℕ
  found = length_found (front takes tag (drop i b))

  -- fewer bytes than a head
  pub too_few : length b - i < head_length → 0 ≡ found
  too_few h = sym (ap length_found (front-few takes tag (drop i b) (omega (arith, length-drop i b))))

  module _ (enough : i + head_length ≤ length b) where
    abbrev pub told : ℕ
    told = get_or b (i + 1) 0 * high_byte + get_or b (i + 2) 0

    rest : length (drop (i + head_length) b) ≡ length b - i - head_length
    rest = length-drop (i + head_length) b ∙ omega arith

    pub other_tag : (get_or b i 0 ≡ tag → ⊥) → 0 ≡ found
    unfolding front
    other_tag h = rw (head_at b i enough, ne_eqb (get_or b i 0) tag h)

    pub other_length : get_or b i 0 ≡ tag → takes (get_or b i 0) told ≡ false → 0 ≡ found
    unfolding front
    other_length is h = rw (head_at b i enough, h, eq-eqb (get_or b i 0) tag is)

    pub too_short : get_or b i 0 ≡ tag → takes (get_or b i 0) told ≡ true → length b - i - head_length < told → 0 ≡ found
    unfolding front
    too_short is h l =
        rw (head_at b i enough, h, eq-eqb (get_or b i 0) tag is, lt-leb told (length (drop (i + head_length) b)) (omega (arith, rest)))

    pub whole : get_or b i 0 ≡ tag → takes (get_or b i 0) told ≡ true → told ≤ length b - i - head_length → told ≡ found
    unfolding front
    whole is h l =
        let fits : told ≤ length (drop (i + head_length) b) = omega (arith, rest) in
        rw (head_at b i enough, h, eq-eqb (get_or b i 0) tag is, le-leb told (length (drop (i + head_length) b)) fits)
        (sym (length-take-le told (drop (i + head_length) b) fits))

-- a glyph's field at a place: none there
module _ (b : List ℕ) (i c : ℕ) where
  pub no-glyph : 0 ≡ length_found (front takes glyph_tag (drop i b)) → false ≡ is_field (glyph_of c (front takes glyph_tag (drop i b)))
  no-glyph e = go (front takes glyph_tag (drop i b)) refl e
    where
      go : (f : Front) → front takes glyph_tag (drop i b) ≡ f → 0 ≡ length_found f → false ≡ is_field (glyph_of c f)
      go no_field p h = refl
      go (value [] s) p h = refl
      go (value (d ∷ v) s) p h = absurd (omega arith)

  -- one there: its character and its rows
  pub a-glyph : i + glyph_field ≤ length b → (length_found (front takes glyph_tag (drop i b)) ≡ 0 → ⊥)
      → is_field (glyph_of c (front takes glyph_tag (drop i b)))
      ≡ cond (eqb (get_or b (i + head_length) 0) c) (dotted (take glyph_rows (drop (i + rows_at) b))) false
  a-glyph inside e = go (front takes glyph_tag (drop i b)) refl e
    where
      by_tests : (d : ℕ) (v s : List ℕ) (t u : Bool)
          → is_field (cond t (cond u (value v s) no_field) no_field) ≡ cond t u false
      by_tests d v s true true = refl
      by_tests d v s true false = refl
      by_tests d v s false u = refl

      go : (f : Front) → front takes glyph_tag (drop i b) ≡ f → (length_found f ≡ 0 → ⊥)
          → is_field (glyph_of c f) ≡ cond (eqb (get_or b (i + head_length) 0) c) (dotted (take glyph_rows (drop (i + rows_at) b))) false
      go no_field p h = absurd (h refl)
      go (value [] s) p h = absurd (h refl)
      go (value (d ∷ v) s) p h =
          let told = front-stands takes glyph_tag (drop i b) (d ∷ v) s p in
          let ten : length (d ∷ v) ≡ glyph_length = glyph-taken (length (d ∷ v)) told.4 in
          let one : i + head_length + 1 ≡ i + rows_at = omega arith in
          let is : d ∷ v ≡ get_or b (i + head_length) 0 ∷ take glyph_rows (drop (i + rows_at) b) =
          told.0 ∙ rw (ten, drop-drop head_length i b, at b (i + head_length) (omega arith), one) in
          let first : d ≡ get_or b (i + head_length) 0 = cc is in
          let behind : v ≡ take glyph_rows (drop (i + rows_at) b) = cc is in
          by_tests d v s (eqb d c) (dotted v) ∙ rw (first, behind)
