-- Where the name and the rows stand in a bundle: all places are fixed by the length of the name. Assumes nothing.
use Rattle.std.specs.Prelude.{◌≡◌, refl, Bool, cond, List, [], ◌∷◌, ◌++◌, ℕ, zero, suc, ◌+◌, ◌*◌, ◌<◌, eqb, length, get_or, take, drop}
use Rattle.std.proofs.Common.{ap, ap₂, ◌∙◌, not-suc-le-zero, le_of_suc-le-suc, arith, eqb→eq, length-drop, length-take-le, take_at, drop_at, drop-drop}
use Rattle.base_lists.specs.Table.{at}
use Rattle.base_fields.specs.Fields.{head_length, field}
use Rattle.base_fields.specs.Laws.{length-field}
use Rattle.bundle_spec.specs.Bundles.{name_tag, glyph_tag, glyph_rows, characters, glyph_count, glyph_fields, bundle_of, glyphs_of}
use Rattle.bundle_spec.specs.Lengths.{glyph_field}

-- the name stands behind its head
abbrev pub name_at : ℕ
name_at = head_length

-- the rows of a glyph stand in its field behind the head and the character
abbrev pub rows_at : ℕ
rows_at = 4

-- the rows of glyph i, behind a name of n bytes
abbrev pub glyph_at : ℕ → ℕ → ℕ
glyph_at n i = head_length + n + (glyph_field * i + rows_at)

-- how many of these characters stand before c; all of them where it is none of them
unfoldable pub index_of : ℕ → List ℕ → ℕ
index_of c [] = zero
index_of c (d ∷ cs) = cond (eqb c d) zero (suc (index_of c cs))

-- each of the fourteen characters has its own place
in_order : ℕ → ℕ → Bool
in_order i c = eqb (index_of c characters) i

pub index-character : (i : ℕ) → i < glyph_count → index_of (get_or characters i 0) characters ≡ i
unfolding index_of in_order
index-character i h = eqb→eq (index_of (get_or characters i 0) characters) i (at in_order characters tt i h)

-- a name's bytes stand where they must
pub name-place : (name r : List ℕ) → take (length name) (drop name_at (bundle_of name r)) ≡ name
unfolding bundle_of field
name-place name r = take_at name (glyph_fields characters r) (length name) refl

-- the fields of the glyphs stand behind the name
pub glyphs-place : (name r : List ℕ) → drop (head_length + length name) (bundle_of name r) ≡ glyph_fields characters r
unfolding bundle_of
glyphs-place name r = drop_at (field name_tag name) (glyph_fields characters r) (head_length + length name) (length-field name_tag name)

-- a glyph's field is passed, and its rows stand in it
first_rows : (c : ℕ) (v s : List ℕ) → length v ≡ glyph_rows → take glyph_rows (drop rows_at (field glyph_tag (c ∷ v) ++ s)) ≡ v
unfolding field
first_rows c v s h = take_at v s glyph_rows h

past_first : (c : ℕ) (v s : List ℕ) → length v ≡ glyph_rows → drop glyph_field (field glyph_tag (c ∷ v) ++ s) ≡ s
past_first c v s h = drop_at (field glyph_tag (c ∷ v)) s glyph_field (length-field glyph_tag (c ∷ v) ∙ omega (arith, h))

-- the rows of glyph i
pub rows-place : (cs r : List ℕ) (i : ℕ) → length r ≡ glyph_rows * length cs → i < length cs
    → take glyph_rows (drop (glyph_field * i + rows_at) (glyph_fields cs r)) ≡ take glyph_rows (drop (glyph_rows * i) r)
unfolding glyph_fields
rows-place [] r i h g = absurd (not-suc-le-zero g)
rows-place (c ∷ cs) r zero h g =
    first_rows c (take glyph_rows r) (glyph_fields cs (drop glyph_rows r)) (length-take-le glyph_rows r (omega arith))
rows-place (c ∷ cs) r (suc i) h g =
    let rest = glyph_fields cs (drop glyph_rows r) in
    let first = field glyph_tag (c ∷ take glyph_rows r) in
    let nine : length (take glyph_rows r) ≡ glyph_rows = length-take-le glyph_rows r (omega arith) in
    let on : glyph_field * suc i + rows_at ≡ glyph_field + (glyph_field * i + rows_at) = omega arith in
    let down : glyph_rows * suc i ≡ glyph_rows + glyph_rows * i = omega arith in
    rw (on, down, ← drop-drop (glyph_field * i + rows_at) glyph_field (first ++ rest), ← drop-drop (glyph_rows * i) glyph_rows r)
    (ap (λ (t : List ℕ). take glyph_rows (drop (glyph_field * i + rows_at) t)) (past_first c (take glyph_rows r) rest nine)
    ∙ rows-place cs (drop glyph_rows r) i (length-drop glyph_rows r ∙ omega arith) (le_of_suc-le-suc g))

-- the rows of n glyphs that stand as fields one behind the other
unfoldable pub glyphs_at : ℕ → List ℕ → List (List ℕ)
glyphs_at zero s = []
glyphs_at (suc n) s = take glyph_rows (drop rows_at s) ∷ glyphs_at n (drop glyph_field s)

pub glyphs-stand : (cs r : List ℕ) → length r ≡ glyph_rows * length cs → glyphs_at (length cs) (glyph_fields cs r) ≡ glyphs_of (length cs) r
unfolding glyph_fields glyphs_at glyphs_of
glyphs-stand [] r h = refl
glyphs-stand (c ∷ cs) r h =
    let rest = glyph_fields cs (drop glyph_rows r) in
    let nine : length (take glyph_rows r) ≡ glyph_rows = length-take-le glyph_rows r (omega arith) in
    ap₂ ◌∷◌ (first_rows c (take glyph_rows r) rest nine)
    (ap (glyphs_at (length cs)) (past_first c (take glyph_rows r) rest nine) ∙ glyphs-stand cs (drop glyph_rows r) (length-drop glyph_rows r ∙ omega arith))
