-- Laws of bytes XORed into a state: its length and bytes, one byte more, and no more bytes than the state has. Assumes nothing.
use Rattle.std.specs.Prelude.{◌≡◌, refl, List, [], ◌∷◌, ℕ, zero, suc, ◌≤◌, ◌<◌, length, get_or, take, set}
use Rattle.std.proofs.Common.{ap, ◌∙◌, not-suc-le-zero, le_of_suc-le-suc, take_all}
use Rattle.std.specs.Int.Bits.{bit_xor}
use Rattle.std.proofs.lemmas.Nat.{xor_lt}
use Rattle.base_lists.specs.Below.{Below}
use Rattle.gage_sponge.specs.Absorbing.{xored}

pub length-xored : (b s : List ℕ) → length (xored b s) ≡ length s
unfolding xored
length-xored [] s = refl
length-xored (x ∷ b) [] = refl
length-xored (x ∷ b) (y ∷ s) = ap suc (length-xored b s)

pub xored-below : (b s : List ℕ) → Below 256 b → Below 256 s → Below 256 (xored b s)
unfolding xored
xored-below [] s p q = q
xored-below (x ∷ b) [] p q = tt
xored-below (x ∷ b) (y ∷ s) p q = (xor_lt 8 x y p.0 q.0, xored-below b s p.1 q.1)

-- one byte more
pub xored-more : (b s : List ℕ) (i : ℕ) → i < length b → i < length s
    → set (xored (take i b) s) i (bit_xor (get_or b i 0) (get_or (xored (take i b) s) i 0)) ≡ xored (take (suc i) b) s
unfolding xored
xored-more [] s i h g = absurd (not-suc-le-zero h)
xored-more (x ∷ b) [] i h g = absurd (not-suc-le-zero g)
xored-more (x ∷ b) (y ∷ s) zero h g = refl
xored-more (x ∷ b) (y ∷ s) (suc i) h g = ap (λ (l : List ℕ). bit_xor x y ∷ l) (xored-more b s i (le_of_suc-le-suc h) (le_of_suc-le-suc g))

-- no more bytes than the state has are XORed in
pub xored-past : (b s : List ℕ) (i : ℕ) → length s ≤ i → xored (take i b) s ≡ xored b s
unfolding xored
xored-past [] s zero h = refl
xored-past [] s (suc i) h = refl
xored-past (x ∷ b) [] zero h = refl
xored-past (x ∷ b) [] (suc i) h = refl
xored-past (x ∷ b) (y ∷ s) zero h = absurd (not-suc-le-zero h)
xored-past (x ∷ b) (y ∷ s) (suc i) h = ap (λ (l : List ℕ). bit_xor x y ∷ l) (xored-past b s i (le_of_suc-le-suc h))

-- the first n bytes of the state, with the first n of b
pub xored-take : (n : ℕ) (b s : List ℕ) → take n (xored b s) ≡ xored (take n b) (take n s)
unfolding xored
xored-take zero b s = refl
xored-take (suc n) [] s = refl
xored-take (suc n) (x ∷ b) [] = refl
xored-take (suc n) (x ∷ b) (y ∷ s) = ap (λ (l : List ℕ). bit_xor x y ∷ l) (xored-take n b s)

-- and with all of b, where it is no longer
pub xored-front : (n : ℕ) (b s : List ℕ) → length b ≤ n → take n (xored b s) ≡ xored b (take n s)
xored-front n b s h = xored-take n b s ∙ ap (λ (l : List ℕ). xored l (take n s)) (take_all n b h)
