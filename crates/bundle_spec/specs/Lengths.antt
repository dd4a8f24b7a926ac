-- How long bundles and their parts are, what the tags' rules take, and what the writer takes. Assumes nothing.
use Rattle.std.specs.Prelude.{◌≡◌, refl, Bool, true, false, cond, List, [], ◌∷◌, ℕ, ◌+◌, ◌*◌, ◌≤◌, eqb, leb, length, take, drop}
use Rattle.std.proofs.Common.{◌∙◌, arith, length-append, length-drop, length-take-le, eq-eqb, le-leb, eqb-true, leb-true}
use Rattle.base_lists.specs.Never.{never}
use Rattle.base_fields.specs.Fields.{field}
use Rattle.base_fields.specs.Laws.{length-field}
use Rattle.bundle_spec.specs.Bundles.{name_tag, glyph_tag, shortest_name, longest_name, glyph_rows, glyph_length, characters}
use Rattle.bundle_spec.specs.Bundles.{all_rows, takes, glyph_fields, bundle_of, dotted, fitting}

-- a glyph's field whole: its head, its character and its rows
abbrev pub glyph_field : ℕ
glyph_field = 13

-- the fourteen of them, and what stands in a bundle beside the bytes of the name
abbrev pub glyphs_length : ℕ
glyphs_length = 182

abbrev pub beside_name : ℕ
beside_name = 185

-- a bundle is at most 217 bytes (order W1)
abbrev pub longest_bundle : ℕ
longest_bundle = 217

-- the rules take these lengths
pub takes-name : (n : ℕ) → shortest_name ≤ n → n ≤ longest_name → takes name_tag n ≡ true
unfolding takes
takes-name n l h = rw (le-leb shortest_name n l) (le-leb n longest_name h)

pub takes-glyph : (n : ℕ) → n ≡ glyph_length → takes glyph_tag n ≡ true
unfolding takes
takes-glyph n e = eq-eqb n glyph_length e

-- and no others
pub name-taken : (n : ℕ) → takes name_tag n ≡ true → (shortest_name ≤ n) × (n ≤ longest_name)
unfolding takes
name-taken n = go (leb shortest_name n) refl
  where
    go : (t : Bool) → leb shortest_name n ≡ t → cond t (leb n longest_name) false ≡ true → (shortest_name ≤ n) × (n ≤ longest_name)
    go true p e = (leb-true shortest_name n p, leb-true n longest_name e)
    go false p e = never e

pub glyph-taken : (n : ℕ) → takes glyph_tag n ≡ true → n ≡ glyph_length
unfolding takes
glyph-taken n e = eqb-true n glyph_length e

-- a name, rows and dots that the writer takes
pub record Fitting (name rows : List ℕ) : Type 0 where
  pub name-rule : takes name_tag (length name) ≡ true
  pub rows_are : length rows ≡ all_rows
  pub dots : dotted rows ≡ true

pub fitting-is : (name rows : List ℕ) → fitting name rows ≡ true → Fitting name rows
unfolding fitting
fitting-is name rows = go (takes name_tag (length name)) refl (eqb (length rows) all_rows) refl
  where
    go : (t : Bool) → takes name_tag (length name) ≡ t → (u : Bool) → eqb (length rows) all_rows ≡ u
        → cond t (cond u (dotted rows) false) false ≡ true → Fitting name rows
    go true p true q e = record { name-rule = p; rows_are = eqb-true (length rows) all_rows q; dots = e }
    go true p false q e = never e
    go false p u q e = never e

pub is-fitting : {name rows : List ℕ} → Fitting name rows → fitting name rows ≡ true
unfolding fitting
is-fitting {name} {rows} f = rw (f.name-rule, eq-eqb (length rows) all_rows f.rows_are) f.dots

-- the fields of glyphs, with rows for each
pub length-glyphs : (cs rows : List ℕ) → glyph_rows * length cs ≤ length rows → length (glyph_fields cs rows) ≡ glyph_field * length cs
unfolding glyph_fields
length-glyphs [] rows h = refl
length-glyphs (c ∷ cs) rows h =
    let first : length (take glyph_rows rows) ≡ glyph_rows = length-take-le glyph_rows rows (omega arith) in
    let rest = length-glyphs cs (drop glyph_rows rows) (omega (arith, length-drop glyph_rows rows)) in
    length-append (field glyph_tag (c ∷ take glyph_rows rows)) (glyph_fields cs (drop glyph_rows rows))
    ∙ omega (arith, length-field glyph_tag (c ∷ take glyph_rows rows))

-- a bundle has 185 bytes and its name, at most 217
pub length-bundle : (name rows : List ℕ) → length rows ≡ all_rows → length (bundle_of name rows) ≡ beside_name + length name
unfolding bundle_of
length-bundle name rows h =
    length-append (field name_tag name) (glyph_fields characters rows)
    ∙ omega (arith, length-field name_tag name, length-glyphs characters rows (omega arith))

pub bundle-at-most : {name rows : List ℕ} → Fitting name rows → length (bundle_of name rows) ≤ longest_bundle
bundle-at-most {name} {rows} f =
    omega (arith, length-bundle name rows f.rows_are, name-taken (length name) f.name-rule)
