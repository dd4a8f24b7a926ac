-- `alike` says exactly that two of the fourteen glyphs have the same dots. Assumes nothing.
use Rattle.std.specs.Prelude.{◌≡◌, refl, Bool, true, false, cond, ◌↔◌, List, [], ◌∷◌, ℕ, zero, suc, ◌*◌, ◌<◌, ◌+◌, length, get_or, take, drop}
use Rattle.std.proofs.Common.{sym, ◌∙◌, suc-le-suc, not-suc-le-zero, le_of_suc-le-suc, arith, drop-drop}
use Rattle.base_lists.specs.Never.{never}
use Rattle.base_lists.specs.Buffers.{same}
use Rattle.base_lists.specs.Sameness.{same_refl, same-eq}
use Rattle.bundle_spec.specs.Bundles.{glyph_rows, glyph_count, glyphs_of, among, repeated, alike}
use Rattle.bundle_spec.specs.Alike.{glyph, Pair, Alike}

-- a glyph among others is one of them
among_one : (g : List ℕ) (gs : List (List ℕ)) → among g gs ≡ true → (j : ℕ) × (j < length gs) × (g ≡ get_or gs j [])
unfolding among
among_one g [] e = never e
among_one g (h ∷ hs) e = go (same g h) refl (among_one g hs) e
  where
    go : (t : Bool) → same g h ≡ t → (among g hs ≡ true → (j : ℕ) × (j < length hs) × (g ≡ get_or hs j []))
        → cond t true (among g hs) ≡ true → (j : ℕ) × (j < length (h ∷ hs)) × (g ≡ get_or (h ∷ hs) j [])
    go true p rest e = (zero, omega arith, same-eq g h p)
    go false p rest e = let found = rest e in (suc found.0, suc-le-suc found.1, found.2)

one-among : (g : List ℕ) (gs : List (List ℕ)) (j : ℕ) → j < length gs → g ≡ get_or gs j [] → among g gs ≡ true
unfolding among
one-among g [] j h e = absurd (not-suc-le-zero h)
one-among g (k ∷ ks) zero h e = rw (← e, same_refl g)
one-among g (k ∷ ks) (suc j) h e = rw (one-among g ks j (le_of_suc-le-suc h) e) (either (same g k))
  where
    either : (t : Bool) → cond t true true ≡ true
    either true = refl
    either false = refl

repeated-pair : (gs : List (List ℕ)) → repeated gs ≡ true → Pair gs
unfolding repeated
repeated-pair [] e = never e
repeated-pair (g ∷ gs) e = go (among g gs) refl (repeated-pair gs) e
  where
    go : (t : Bool) → among g gs ≡ t → (repeated gs ≡ true → Pair gs) → cond t true (repeated gs) ≡ true → Pair (g ∷ gs)
    go true p rest e =
        let found = among_one g gs p in
        record { first = zero; second = suc found.0; order = omega arith; inside = suc-le-suc found.1; equal = found.2 }
    go false p rest e =
        let pair = rest e in
        record {
          first = suc pair.first;
          second = suc pair.second;
          order = suc-le-suc pair.order;
          inside = suc-le-suc pair.inside;
          equal = pair.equal;
        }

pair-repeated : (gs : List (List ℕ)) (i j : ℕ) → i < j → j < length gs → get_or gs i [] ≡ get_or gs j [] → repeated gs ≡ true
unfolding repeated
pair-repeated [] i j o h e = absurd (not-suc-le-zero h)
pair-repeated (g ∷ gs) i zero o h e = absurd (not-suc-le-zero o)
pair-repeated (g ∷ gs) zero (suc j) o h e = rw (one-among g gs j (le_of_suc-le-suc h) e)
pair-repeated (g ∷ gs) (suc i) (suc j) o h e =
    rw (pair-repeated gs i j (le_of_suc-le-suc o) (le_of_suc-le-suc h) e) (either (among g gs))
  where
    either : (t : Bool) → cond t true true ≡ true
    either true = refl
    either false = refl

-- rows as glyphs: how many, and which
length-glyphs-of : (n : ℕ) (rows : List ℕ) → length (glyphs_of n rows) ≡ n
unfolding glyphs_of
length-glyphs-of zero rows = refl
length-glyphs-of (suc n) rows = omega (arith, length-glyphs-of n (drop glyph_rows rows))

glyph-of : (n : ℕ) (rows : List ℕ) (i : ℕ) → i < n → get_or (glyphs_of n rows) i [] ≡ glyph rows i
unfolding glyphs_of
glyph-of zero rows i h = absurd (not-suc-le-zero h)
glyph-of (suc n) rows zero h = refl
glyph-of (suc n) rows (suc i) h =
    let down : glyph_rows * suc i ≡ glyph_rows + glyph_rows * i = omega arith in
    glyph-of n (drop glyph_rows rows) i (le_of_suc-le-suc h) ∙ rw (down, ← drop-drop (glyph_rows * i) glyph_rows rows)

pub alike-exactly : (rows : List ℕ) → (alike rows ≡ true) ↔ Alike rows
unfolding alike
alike-exactly rows = (
  λ e.
      let p = repeated-pair (glyphs_of glyph_count rows) e in
      let n = length-glyphs-of glyph_count rows in
      let in2 : p.second < glyph_count = omega (arith, p.inside) in
      let in1 : p.first < glyph_count = omega (arith, p.order) in
      record {
        first = p.first;
        second = p.second;
        order = p.order;
        inside = in2;
        equal = sym (glyph-of glyph_count rows p.first in1) ∙ p.equal ∙ glyph-of glyph_count rows p.second in2;
      },
  λ a.
      let in1 : a.first < glyph_count = omega (arith, a.order, a.inside) in
      pair-repeated (glyphs_of glyph_count rows) a.first a.second a.order
      (omega (arith, length-glyphs-of glyph_count rows, a.inside))
      (glyph-of glyph_count rows a.first in1 ∙ a.equal ∙ sym (glyph-of glyph_count rows a.second a.inside)),
)
