-- Rows, characters and glyphs one behind the other, as the loops go. Assumes nothing.
use mathlib.Core.Path.{◌≡◌, refl, ap, ◌∙◌}
use mathlib.Core.Bool.{Bool, true, false, cond}
use mathlib.Core.List.{List, [], ◌∷◌}
use Prim.Native.Nat.{ℕ, zero, suc, ◌+◌, ◌-◌, ◌≤◌, ◌<◌}
use native.Mathlib.Nat.{not-suc-le-zero}
use native.Mathlib.Omega.{arith}
use lib.Dec.{eqb}
use lib.ListN.{length, get_or, take, drop, drop_of_length-le}
use lib.Seq.{drop-drop}
use Rattle.base_lists.specs.Walk.{at}
use Rattle.base_lists.specs.Buffers.{same}
use Rattle.base_fields.specs.Fields.{Front, value, no_field, front}
use Rattle.base_fields.specs.Laws.{front-stands}
use Rattle.bundle_spec.specs.Bundles.{glyph_tag, glyph_rows, glyph_length, takes, dotted, among, repeated, glyph_of, Rows, rows, no_rows, before, behind, rows_of}
use Rattle.bundle_spec.specs.Lengths.{glyph_field, glyph-taken}
use Rattle.bundle_spec.specs.Places.{rows_at, glyphs_at}
use Rattle.bundle_read.specs.Answers.{is_field, is_rows}

-- a glyph that stands first is passed, and those behind it decide
past : (c : ℕ) (cs s : List ℕ) (f : Front) → front takes glyph_tag s ≡ f → is_field (glyph_of c f) ≡ true
    → is_rows (behind (glyph_of c f) (rows_of cs)) ≡ is_rows (rows_of cs (drop glyph_field s))
past c cs s no_field p e = absurd (let z : ◌≡◌ {A = ℕ} 0 1 = cc e in omega arith)
past c cs s (value [] u) p e = absurd (let z : ◌≡◌ {A = ℕ} 0 1 = cc e in omega arith)
past c cs s (value (d ∷ v) u) p e = go (eqb d c) (dotted v) e
  where
    leads : (w : List ℕ) (x : Rows) → is_rows (before w x) ≡ is_rows x
    leads w (rows r) = refl
    leads w no_rows = refl

    rest : u ≡ drop glyph_field s
    rest =
        let told = front-stands takes glyph_tag s (d ∷ v) u p in
        let ten : length (d ∷ v) ≡ glyph_length = glyph-taken (length (d ∷ v)) told.4 in
        told.1 ∙ rw ten

    go : (t w : Bool) → is_field (cond t (cond w (value v u) no_field) no_field) ≡ true
        → is_rows (behind (cond t (cond w (value v u) no_field) no_field) (rows_of cs)) ≡ is_rows (rows_of cs (drop glyph_field s))
    go true true h = leads v (rows_of cs u) ∙ ap (λ (l : List ℕ). is_rows (rows_of cs l)) rest
    go true false h = absurd (let z : ◌≡◌ {A = ℕ} 0 1 = cc h in omega arith)
    go false w h = absurd (let z : ◌≡◌ {A = ℕ} 0 1 = cc h in omega arith)

-- glyphs looked for at a place of b, i characters passed: all passed; one more; one missing
pub rows_end : (cs b : List ℕ) (i j : ℕ) → length cs ≤ i → length b ≤ j → is_rows (rows_of (drop i cs) (drop j b)) ≡ true
unfolding rows_of
rows_end cs b i j h g = rw (drop_of_length-le cs {i = i} h, drop_of_length-le b {i = j} g)

pub rows_on : (cs b : List ℕ) (i j : ℕ) → i < length cs → is_field (glyph_of (get_or cs i 0) (front takes glyph_tag (drop j b))) ≡ true
    → is_rows (rows_of (drop i cs) (drop j b)) ≡ is_rows (rows_of (drop (i + 1) cs) (drop (j + glyph_field) b))
unfolding rows_of
rows_on cs b i j h e =
    rw (at cs i h) (past (get_or cs i 0) (drop (i + 1) cs) (drop j b) (front takes glyph_tag (drop j b)) refl e ∙ rw (drop-drop glyph_field j b))

pub rows-not : (cs b : List ℕ) (i j : ℕ) → i < length cs → is_field (glyph_of (get_or cs i 0) (front takes glyph_tag (drop j b))) ≡ false
    → is_rows (rows_of (drop i cs) (drop j b)) ≡ false
unfolding rows_of
rows-not cs b i j h e = rw (at cs i h) (go (glyph_of (get_or cs i 0) (front takes glyph_tag (drop j b))) e)
  where
    go : (f : Front) → is_field f ≡ false → is_rows (behind f (rows_of (drop (i + 1) cs))) ≡ false
    go no_field e = refl
    go (value v u) e = absurd (let z : ◌≡◌ {A = ℕ} 0 1 = cc e in omega arith)

-- the rows of the glyphs at two places of b, cut out
pub cut_out : (b : List ℕ) (g j : ℕ)
    → same (take (g + glyph_field - (g + rows_at)) (drop (g + rows_at) b)) (take (j + glyph_field - (j + rows_at)) (drop (j + rows_at) b))
    ≡ same (take glyph_rows (drop rows_at (drop g b))) (take glyph_rows (drop (j + rows_at) b))
cut_out b g j =
    let one : g + glyph_field - (g + rows_at) ≡ glyph_rows = omega arith in
    let two : j + glyph_field - (j + rows_at) ≡ glyph_rows = omega arith in
    rw (one, two, drop-drop rows_at g b)

-- a glyph held to n that stand from a place of b: to none; to the first of them, which is the same or not
pub among-end : (g b : List ℕ) (j n : ℕ) → n ≡ 0 → among g (glyphs_at n (drop j b)) ≡ false
unfolding among glyphs_at
among-end g b j zero e = refl
among-end g b j (suc n) e = absurd (omega arith)

module _ (g b : List ℕ) (j n : ℕ) (some : 0 < n) where
  among-more : among g (glyphs_at n (drop j b)) ≡ cond (same g (take glyph_rows (drop (j + rows_at) b))) true
      (among g (glyphs_at (n - 1) (drop (j + glyph_field) b)))
  unfolding among glyphs_at
  among-more = go n some
    where
      go : (m : ℕ) → 0 < m
          → among g (glyphs_at m (drop j b)) ≡ cond (same g (take glyph_rows (drop (j + rows_at) b))) true (among g (glyphs_at (m - 1) (drop (j + glyph_field) b)))
      go zero h = absurd (not-suc-le-zero h)
      go (suc m) h = let less : suc m - 1 ≡ m = omega arith in rw (less, drop-drop rows_at j b, drop-drop glyph_field j b)

  pub among-here : same g (take glyph_rows (drop (j + rows_at) b)) ≡ true → among g (glyphs_at n (drop j b)) ≡ true
  among-here e = among-more ∙ rw e

  pub among-on : same g (take glyph_rows (drop (j + rows_at) b)) ≡ false → among g (glyphs_at n (drop j b)) ≡ among g (glyphs_at (n - 1) (drop (j + glyph_field) b))
  among-on e = among-more ∙ rw e

-- n glyphs from a place of b held to each other: none; the first to those behind it
pub repeated-end : (b : List ℕ) (j n : ℕ) → n ≡ 0 → repeated (glyphs_at n (drop j b)) ≡ false
unfolding repeated glyphs_at
repeated-end b j zero e = refl
repeated-end b j (suc n) e = absurd (omega arith)

module _ (b : List ℕ) (j n : ℕ) (some : 0 < n) where
  abbrev pub first : List ℕ
  first = take glyph_rows (drop rows_at (drop j b))

  repeated-more : repeated (glyphs_at n (drop j b))
      ≡ cond (among first (glyphs_at (n - 1) (drop (j + glyph_field) b))) true (repeated (glyphs_at (n - 1) (drop (j + glyph_field) b)))
  unfolding repeated glyphs_at
  repeated-more = go n some
    where
      go : (m : ℕ) → 0 < m → repeated (glyphs_at m (drop j b))
          ≡ cond (among first (glyphs_at (m - 1) (drop (j + glyph_field) b))) true (repeated (glyphs_at (m - 1) (drop (j + glyph_field) b)))
      go zero h = absurd (not-suc-le-zero h)
      go (suc m) h = let less : suc m - 1 ≡ m = omega arith in rw (less, drop-drop glyph_field j b)

  pub repeated-here : among first (glyphs_at (n - 1) (drop (j + glyph_field) b)) ≡ true → repeated (glyphs_at n (drop j b)) ≡ true
  repeated-here e = repeated-more ∙ rw e

  pub repeated-on : among first (glyphs_at (n - 1) (drop (j + glyph_field) b)) ≡ false
      → repeated (glyphs_at n (drop j b)) ≡ repeated (glyphs_at (n - 1) (drop (j + glyph_field) b))
  repeated-on e = repeated-more ∙ rw e
