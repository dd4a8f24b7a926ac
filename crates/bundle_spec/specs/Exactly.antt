-- A bundle is one to one with its name and rows: what is made of them is taken apart as they were, and bytes that can be taken apart are what is
-- made of them. Assumes nothing.
use Rattle.std.specs.Prelude.{◌≡◌, refl, Bool, true, false, cond, List, [], ◌∷◌, ◌++◌, ℕ, ◌*◌, eqb, ltb, length, take, drop}
use Rattle.std.proofs.Common.{sym, ap, ◌∙◌, arith, length-append, length-drop, take-append-drop, length-take-le, take_at, drop_at, eq-eqb, eqb-true}
use Rattle.base_fields.specs.Fields.{field, Front, value, no_field, front}
use Rattle.base_fields.specs.Laws.{front-field, front-short, front-stands}
use Rattle.bundle_spec.specs.Bundles.{name_tag, glyph_tag, glyph_rows, glyph_length, characters, all_rows, takes, glyph_fields, bundle_of, dotted, glyph_of, Rows}
use Rattle.bundle_spec.specs.Bundles.{rows, no_rows, before, behind, rows_of, Parts, parts, no-parts, named, after_name, parts_of}
use Rattle.bundle_spec.specs.Lengths.{takes-glyph, name-taken, glyph-taken, Fitting}

-- rows have seven dots exactly if those of both parts have
pub dotted-append : (x y : List ℕ) → dotted (x ++ y) ≡ cond (dotted x) (dotted y) false
unfolding dotted
dotted-append [] y = refl
dotted-append (r ∷ x) y = rw (dotted-append x y) (swap (ltb r 128) (dotted x) (dotted y))
  where
    swap : (t u v : Bool) → cond t (cond u v false) false ≡ cond (cond t u false) v false
    swap true u v = refl
    swap false u v = refl

-- the rows of one glyph, and those of the others
dotted-cut : (r : List ℕ) → dotted r ≡ cond (dotted (take glyph_rows r)) (dotted (drop glyph_rows r)) false
dotted-cut r = ap dotted (sym (take-append-drop glyph_rows r)) ∙ dotted-append (take glyph_rows r) (drop glyph_rows r)

dotted-none : dotted [] ≡ true
unfolding dotted
dotted-none = refl

none : (r : List ℕ) → length r ≡ 0 → r ≡ []
none [] h = refl
none (x ∷ r) h = absurd (omega arith)

-- the fields of glyphs are taken apart as they were, where their rows have seven dots
pub rows-fields : (cs r : List ℕ) → length r ≡ glyph_rows * length cs → rows_of cs (glyph_fields cs r) ≡ cond (dotted r) (rows r) no_rows
unfolding rows_of glyph_fields
rows-fields [] r h = rw (none r (omega arith), dotted-none)
rows-fields (c ∷ cs) r h =
    let ten : length (c ∷ take glyph_rows r) ≡ glyph_length = omega (arith, length-take-le glyph_rows r (omega arith)) in
    let first = front-field takes glyph_tag (c ∷ take glyph_rows r) (glyph_fields cs (drop glyph_rows r)) (takes-glyph _ ten) in
    let rest = rows-fields cs (drop glyph_rows r) (length-drop glyph_rows r ∙ omega arith) in
    ap (λ (f : Front). behind (glyph_of c f) (rows_of cs)) first
    ∙ rw (eq-eqb c c refl, dotted-cut r) (go (dotted (take glyph_rows r)) (dotted (drop glyph_rows r)) rest)
  where
    go : (t u : Bool) → rows_of cs (glyph_fields cs (drop glyph_rows r)) ≡ cond u (rows (drop glyph_rows r)) no_rows
        → behind (cond t (value (take glyph_rows r) (glyph_fields cs (drop glyph_rows r))) no_field) (rows_of cs) ≡ cond (cond t u false) (rows r) no_rows
    go true true e = rw e (ap rows (take-append-drop glyph_rows r))
    go true false e = rw e
    go false u e = refl

-- a bundle of right lengths is taken apart as it was made, where its rows have seven dots
pub parts-bundle : (name r : List ℕ) → takes name_tag (length name) ≡ true → length r ≡ all_rows
    → parts_of (bundle_of name r) ≡ cond (dotted r) (parts name r) no-parts
unfolding parts_of bundle_of
parts-bundle name r t h =
    ap after_name (front-field takes name_tag name (glyph_fields characters r) t)
    ∙ ap (named name) (rows-fields characters r h) ∙ go (dotted r)
  where
    go : (t : Bool) → named name (cond t (rows r) no_rows) ≡ cond t (parts name r) no-parts
    go true = refl
    go false = refl

pub parts-fitting : {name r : List ℕ} → Fitting name r → parts_of (bundle_of name r) ≡ parts name r
parts-fitting {name} {r} f = rw (parts-bundle name r f.name-rule f.rows_are, f.dots)

-- what some bytes taken apart as glyphs say of them
abbrev Tells : List ℕ → List ℕ → Rows → Type 0
Tells cs s (rows r) = (s ≡ glyph_fields cs r) × (length r ≡ glyph_rows * length cs) × (dotted r ≡ true)
Tells cs s no_rows = Unit {0}

-- one glyph more
more : (c : ℕ) (cs s d u : List ℕ) → s ≡ field glyph_tag (c ∷ d) ++ u → length d ≡ glyph_rows → dotted d ≡ true
    → (x : Rows) → Tells cs u x → Tells (c ∷ cs) s (before d x)
unfolding glyph_fields
more c cs s d u e l t no_rows told = tt
more c cs s d u e l t (rows r) told = (
  e ∙ rw (take_at d r glyph_rows l, drop_at d r glyph_rows l, told.0),
  length-append d r ∙ omega (arith, l, told.1),
  dotted-append d r ∙ rw t told.2,
)

-- by what stands first: a field of ten bytes, its character, its rows
by_field : (c : ℕ) (cs s : List ℕ) → ((u : List ℕ) → Tells cs u (rows_of cs u)) → (f : Front) → front takes glyph_tag s ≡ f
    → Tells (c ∷ cs) s (behind (glyph_of c f) (rows_of cs))
by_field c cs s rest no_field e = tt
by_field c cs s rest (value [] u) e = tt
by_field c cs s rest (value (d ∷ v) u) e = by_tests (eqb d c) refl (dotted v) refl
  where
    ten : length (d ∷ v) ≡ glyph_length
    ten = glyph-taken (length (d ∷ v)) (front-stands takes glyph_tag s (d ∷ v) u e).4

    by_tests : (t : Bool) → eqb d c ≡ t → (w : Bool) → dotted v ≡ w
        → Tells (c ∷ cs) s (behind (cond t (cond w (value v u) no_field) no_field) (rows_of cs))
    by_tests true p true q =
        let is : d ≡ c = eqb-true d c p in
        let whole = (front-short takes glyph_tag s (d ∷ v) u e (omega (arith, ten))).0 in
        more c cs s v u (rw is at whole) (omega (arith, ten)) q (rows_of cs u) (rest u)
    by_tests true p false q = tt
    by_tests false p w q = tt

tells : (cs s : List ℕ) → Tells cs s (rows_of cs s)
unfolding rows_of glyph_fields
tells [] [] = (refl, refl, dotted-none)
tells [] (x ∷ s) = tt
tells (c ∷ cs) s = by_field c cs s (tells cs) (front takes glyph_tag s) refl

-- bytes taken apart as glyphs are the fields of these glyphs, with rows for each, of seven dots
pub fields-rows : (cs s r : List ℕ) → rows_of cs s ≡ rows r → (s ≡ glyph_fields cs r) × (length r ≡ glyph_rows * length cs) × (dotted r ≡ true)
fields-rows cs s r e = rw e at (tells cs s)

-- what bytes taken apart say of the bundle
abbrev Says : List ℕ → Parts → Type 0
Says b (parts name r) = (b ≡ bundle_of name r) × Fitting name r
Says b no-parts = Unit {0}

by_name : (b : List ℕ) (f : Front) → front takes name_tag b ≡ f → Says b (after_name f)
unfolding bundle_of
by_name b no_field e = tt
by_name b (value name s) e = by_rows (rows_of characters s) refl
  where
    by_rows : (x : Rows) → rows_of characters s ≡ x → Says b (named name x)
    by_rows no_rows q = tt
    by_rows (rows r) q =
        let ruled = (front-stands takes name_tag b name s e).4 in
        let whole = (front-short takes name_tag b name s e (omega (arith, name-taken (length name) ruled))).0 in
        let told = fields-rows characters s r q in
        (whole ∙ ap (λ (t : List ℕ). field name_tag name ++ t) told.0, record { name-rule = ruled; rows_are = told.1; dots = told.2 })

-- bytes that can be taken apart are the bundle of these parts, which the writer takes
pub bundle-parts : (b name r : List ℕ) → parts_of b ≡ parts name r → (b ≡ bundle_of name r) × Fitting name r
unfolding parts_of
bundle-parts b name r e = rw e at (by_name b (front takes name_tag b) refl)

-- no two choices of name and rows that the writer takes have one bundle
pub bundle-one-to-one : {name r name' r' : List ℕ} → Fitting name r → Fitting name' r' → bundle_of name r ≡ bundle_of name' r'
    → (name ≡ name') × (r ≡ r')
bundle-one-to-one {name} {r} {name'} {r'} f f' e =
    let is : parts name r ≡ parts name' r' = sym (parts-fitting f) ∙ ap parts_of e ∙ parts-fitting f' in
    (cc is, cc is)
