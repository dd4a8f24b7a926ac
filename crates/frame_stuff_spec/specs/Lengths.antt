-- How long stuffed bytes are: from once to twice the body's, so that a body of one byte or more stays so. Assumes nothing.
use Rattle.std.specs.Prelude.{◌≡◌, refl, List, [], ◌∷◌, ◌++◌, Bool, true, false, cond, ℕ, ◌*◌, ◌≤◌, eqb, length}
use Rattle.std.proofs.Common.{append_assoc, arith, length-append}
use Rattle.frame_stuff_spec.specs.Stuffing.{mark, escape, escaped_mark, escaped_escape, stuff_byte, stuffed}

pub stuffed-append : (s t : List ℕ) → stuffed (s ++ t) ≡ stuffed s ++ stuffed t
unfolding stuffed
stuffed-append [] t = refl
stuffed-append (b ∷ s) t = rw (stuffed-append s t, append_assoc)

byte-length : (b : ℕ) → (1 ≤ length (stuff_byte b)) × (length (stuff_byte b) ≤ 2)
byte-length b = go (eqb b mark) (eqb b escape)
  where
    is : Bool → Bool → List ℕ
    is t u = cond t (escape ∷ escaped_mark ∷ []) (cond u (escape ∷ escaped_escape ∷ []) (b ∷ []))

    go : (t u : Bool) → (1 ≤ length (is t u)) × (length (is t u) ≤ 2)
    go true u = omega arith
    go false true = omega arith
    go false false = omega arith

pub stuff-byte-at-most : (b : ℕ) → length (stuff_byte b) ≤ 2
stuff-byte-at-most b = (byte-length b).1

pub stuffed-at-most : (s : List ℕ) → length (stuffed s) ≤ 2 * length s
unfolding stuffed
stuffed-at-most [] = omega arith
stuffed-at-most (b ∷ s) = omega (arith, length-append (stuff_byte b) (stuffed s), (byte-length b).1, stuffed-at-most s)

pub stuffed-at-least : (s : List ℕ) → length s ≤ length (stuffed s)
unfolding stuffed
stuffed-at-least [] = omega arith
stuffed-at-least (b ∷ s) = omega (arith, length-append (stuff_byte b) (stuffed s), (byte-length b).0, stuffed-at-least s)
