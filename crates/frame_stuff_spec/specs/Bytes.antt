-- Stuffing and unstuffing make bytes of bytes. Assumes nothing.
use Rattle.std.specs.Prelude.{List, [], ◌∷◌, Bool, true, false, cond, ℕ, ◌<◌, eqb}
use Rattle.std.proofs.Common.{arith}
use Rattle.base_lists.specs.Below.{Below, below-append}
use Rattle.frame_stuff_spec.specs.Stuffing.{mark, escape, escaped_mark, escaped_escape, stuff_byte, stuffed, meant, unstuffed, unescaped}

byte-below : (b : ℕ) → b < 256 → Below 256 (stuff_byte b)
byte-below b h = go (eqb b mark) (eqb b escape)
  where
    go : (t u : Bool) → Below 256 (cond t (escape ∷ escaped_mark ∷ []) (cond u (escape ∷ escaped_escape ∷ []) (b ∷ [])))
    go true u = (omega arith, (omega arith, tt))
    go false true = (omega arith, (omega arith, tt))
    go false false = (h, tt)

pub stuffed-below : (b : List ℕ) → Below 256 b → Below 256 (stuffed b)
unfolding stuffed
stuffed-below [] h = tt
stuffed-below (x ∷ b) h = below-append 256 (stuff_byte x) (stuffed b) (byte-below x h.0) (stuffed-below b h.1)

meant-below : (b : ℕ) → meant b < 256
meant-below b = go (eqb b escaped_mark)
  where
    go : (t : Bool) → cond t mark escape < 256
    go true = omega arith
    go false = omega arith

either : (t : Bool) (x y : List ℕ) → Below 256 x → Below 256 y → Below 256 (cond t x y)
either true x y p q = p
either false x y p q = q

mutual
  unfolding unstuffed

  pub unstuffed-below : (s : List ℕ) → Below 256 s → Below 256 (unstuffed s)
  unstuffed-below [] h = tt
  unstuffed-below (b ∷ s) h =
      either (eqb b escape) (unescaped s) (b ∷ unstuffed s) (unescaped-below s h.1) (h.0, unstuffed-below s h.1)

  pub unescaped-below : (s : List ℕ) → Below 256 s → Below 256 (unescaped s)
  unescaped-below [] h = tt
  unescaped-below (b ∷ s) h = (meant-below b, unstuffed-below s h.1)
