-- Bytes judged as a bundle by the length of their name, as `read` goes. Assumes nothing.
use Rattle.std.specs.Prelude.{Err}
use mathlib.Core.Path.{◌≡◌, refl, ap, sym, ◌∙◌}
use mathlib.Core.List.{List}
use Prim.Native.Nat.{ℕ, ◌+◌, ◌-◌, ◌≤◌}
use native.Mathlib.Omega.{arith}
use lib.ListN.{length, drop, length-drop}
use Rattle.base_fields.specs.Fields.{head_length, Front, value, no_field, front}
use Rattle.base_fields.specs.Laws.{front-stands}
use Rattle.bundle_spec.specs.Bundles.{name_tag, characters, glyph_count, takes, repeated, alike, Rows, rows, no_rows, rows_of, named, after_name, parts_of}
use Rattle.bundle_spec.specs.Lengths.{glyphs_length, name-taken, length-glyphs}
use Rattle.bundle_spec.specs.Exactly.{fields-rows}
use Rattle.bundle_spec.specs.Places.{glyphs_at, glyphs-stand}
use Rattle.bundle_read.specs.declared.BundleFault.TheVariants.{Shape}
use Rattle.bundle_read.specs.Answers.{length_found, is_rows, told, judged, read_answer}

module _ (b : List ℕ) where
  abbrev n : ℕ
  n = length_found (front takes name_tag b)

  -- no name stands first
  pub no_name : n ≡ 0 → Err Shape ≡ read_answer b
  unfolding read_answer parts_of
  no_name h = go (front takes name_tag b) refl h
    where
      go : (f : Front) → front takes name_tag b ≡ f → length_found f ≡ 0 → Err Shape ≡ judged (after_name f)
      go no_field p e = refl
      go (value v s) p e = absurd (omega (arith, name-taken (length v) (front-stands takes name_tag b v s p).4))

  module _ (some : n ≡ 0 → ⊥) where
    -- a name that stands first stands in the bytes
    pub name-inside : head_length + n ≤ length b
    name-inside = go (front takes name_tag b) refl some
      where
        go : (f : Front) → front takes name_tag b ≡ f → (length_found f ≡ 0 → ⊥) → head_length + length_found f ≤ length b
        go no_field p e = absurd (e refl)
        go (value v s) p e = (front-stands takes name_tag b v s p).2

    -- the name passed
    past-name : (x : Rows) → rows_of characters (drop (head_length + n) b) ≡ x
        → (v : List ℕ) × (length v ≡ n) × (read_answer b ≡ judged (named v x))
    unfolding read_answer parts_of
    past-name x h = go (front takes name_tag b) refl some h
      where
        go : (f : Front) → front takes name_tag b ≡ f → (length_found f ≡ 0 → ⊥) → rows_of characters (drop (head_length + length_found f) b) ≡ x
            → (v : List ℕ) × (length v ≡ length_found f) × (judged (after_name f) ≡ judged (named v x))
        go no_field p e q = absurd (e refl)
        go (value v s) p e q =
            (v, refl, ap (λ (y : Rows). judged (named v y)) (ap (rows_of characters) (front-stands takes name_tag b v s p).1 ∙ q))

    -- more bytes behind the name than fourteen glyphs have, or fewer
    pub other-end : (length b - (head_length + n) ≡ glyphs_length → ⊥) → Err Shape ≡ read_answer b
    other-end h = go (rows_of characters (drop (head_length + n) b)) refl
      where
        go : (x : Rows) → rows_of characters (drop (head_length + n) b) ≡ x → Err Shape ≡ read_answer b
        go no_rows q = sym (past-name no_rows q).2
        go (rows r) q =
            let are = fields-rows characters (drop (head_length + n) b) r q in
            absurd (h (sym (length-drop (head_length + n) b) ∙ ap length are.0 ∙ length-glyphs characters r (omega (arith, are.1))))

    -- the glyphs stand or not, and are alike or not
    pub as-told : told (is_rows (rows_of characters (drop (head_length + n) b))) (repeated (glyphs_at glyph_count (drop (head_length + n) b))) n ≡ read_answer b
    unfolding alike
    as-told = go (rows_of characters (drop (head_length + n) b)) refl
      where
        go : (x : Rows) → rows_of characters (drop (head_length + n) b) ≡ x
            → told (is_rows x) (repeated (glyphs_at glyph_count (drop (head_length + n) b))) n ≡ read_answer b
        go no_rows q = sym (past-name no_rows q).2
        go (rows r) q =
            let are = fields-rows characters (drop (head_length + n) b) r q in
            let past = past-name (rows r) q in
            rw (ap (glyphs_at glyph_count) are.0 ∙ glyphs-stand characters r are.1, ← past.1) (sym past.2)
