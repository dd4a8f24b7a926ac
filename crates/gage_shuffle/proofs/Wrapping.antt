-- The inverse of the shuffle by a state with seven bytes wrapped around it. Assumes nothing.
use mathlib.Core.Path.{◌≡◌, refl, sym, ap, ◌∙◌}
use mathlib.Core.List.{List, [], ◌∷◌, ◌++◌}
use Prim.Native.Nat.{ℕ, ◌+◌, ◌-◌, ◌/◌, ◌≤◌, ◌<◌, ◌%◌}
use native.Mathlib.Nat.{add-zero, zero-add, mod-lt, mod-eq_of_lt, add-mod_right}
use native.Mathlib.Decide.{dec_lt}
use native.Mathlib.Omega.{arith}
use lib.ListN.{length, get_or, take, drop, set}
use lib.Seq.{length-take-le, get_or-take}
use Rattle.base_lists.specs.Fill.{Filled, filled_more, filled-all}
use Rattle.base_lists.specs.Upto.{Upto}
use Rattle.gage_shuffle.specs.Sizes.{SMALLEST}
use Rattle.gage_shuffle.specs.Shuffling.{source, weights, origins, returned, Joined, unshuffled_byte, unshuffle}
use Rattle.gage_shuffle.specs.Bits.{eight, weighed-by}
use Rattle.gage_shuffle.specs.States.{length-unshuffle, unshuffle-at}

-- two joins wrap a state around
pub wrapped-is : (zeros s e r : List ℕ) (n from : ℕ) → from + 7 ≤ n → Joined zeros 0 s from (n - from) e
    → Joined e (n - from) s 0 (from + 7) r → Upto (λ k. get_or s ((k + from) % n) 0) r (n + 7)
wrapped-is zeros s e r n from h a b = record {
  at = λ k g. elim (dec_lt k (n - from)) [
    | yes p ↦
        let front : k + from < n = omega (arith, p) in
        let turned : from + k ≡ k + from = omega arith in
        b.kept k p ∙ rw zero-add at (a.put k p) ∙ rw (turned, mod-eq_of_lt front)
    | no p ↦
        let m = k - (n - from) in
        let behind : n - from + m ≡ k = omega (arith, p) in
        let short : m < n = omega (arith, p) in
        let around : k + from ≡ m + n = omega (arith, p) in
        rw behind at (b.put m (omega (arith, p))) ∙ rw (zero-add, around, add-mod_right, mod-eq_of_lt short)
  ];
}

module _ (s : List ℕ) (n : ℕ) (fits : n ≤ length s) (wide : SMALLEST ≤ n) where
  long : length (take n s) ≡ n
  long = length-take-le n s fits

  -- what stood in the state before the seven wrapped bytes came before it
  behind : (e : List ℕ) → Upto (λ k. get_or s ((k + (n - 7)) % n) 0) e (n + 7) → (i j : ℕ) → i < n → j < 8
      → get_or e (i + (7 - j)) 0 ≡ get_or (take n s) ((i + (length (take n s) - j)) % length (take n s)) 0
  behind e u i j h g =
      let p : (i + (n - j)) % n < n = mod-lt (i + (n - j)) (omega arith) in
      let q : i + (7 - j) + (n - 7) ≡ i + (n - j) = omega arith in
      u.at (i + (7 - j)) (omega arith) ∙ rw (q, long) (sym (get_or-take n s ((i + (n - j)) % n) 0 p))

  -- the byte given back
  returned-is : (e : List ℕ) (i : ℕ) → Upto (λ k. get_or s ((k + (n - 7)) % n) 0) e (n + 7) → i < n
      → (xs : List ℕ) → ((j : ℕ) → j < 8 → get_or xs j 0 ≡ get_or e (i + (7 - j)) 0) → returned xs ≡ get_or (unshuffle (take n s)) i 0
  unfolding returned unshuffled_byte
  returned-is e i u h xs w =
      weighed-by (λ j. get_or xs j 0 / get_or weights j 1 % 2) (source (take n s) i) 0 origins
      (λ j g. rw zero-add (ap (λ (x : ℕ). x / get_or weights j 1 % 2) (w j g ∙ behind e u i j h g)))
      ∙ sym (unshuffle-at (take n s) i (rw long h))

  pub unshuffle-long : length (unshuffle (take n s)) ≡ n
  unshuffle-long = length-unshuffle (take n s) ∙ long

  -- one byte more
  pub unshuffle-more : (e out : List ℕ) (i v : ℕ) → Upto (λ k. get_or s ((k + (n - 7)) % n) 0) e (n + 7)
      → Filled (unshuffle (take n s)) s out i → i < n
      → v ≡ returned (get_or e (i + 7) 0 ∷ get_or e (i + 6) 0 ∷ get_or e (i + 5) 0 ∷ get_or e (i + 4) 0 ∷ get_or e (i + 3) 0 ∷ get_or e (i + 2) 0 ∷ get_or e (i + 1) 0 ∷ get_or
      e i 0 ∷ [])
      → Filled (unshuffle (take n s)) s (set out i v) (i + 1)
  unshuffle-more e out i v u f h w =
      filled_more v f (rw unshuffle-long h)
      (w
      ∙ returned-is e i u h (get_or e (i + 7) 0 ∷ get_or e (i + 6) 0 ∷ get_or e (i + 5) 0 ∷ get_or e (i + 4) 0 ∷ get_or e (i + 3) 0 ∷ get_or e (i + 2) 0 ∷ get_or e (i + 1) 0
      ∷ get_or e i 0 ∷ [])
      (eight
      (λ j. get_or (get_or e (i + 7) 0 ∷ get_or e (i + 6) 0 ∷ get_or e (i + 5) 0 ∷ get_or e (i + 4) 0 ∷ get_or e (i + 3) 0 ∷ get_or e (i + 2) 0 ∷ get_or e (i + 1) 0 ∷ get_or e i
      0 ∷ []) j 0 ≡ get_or e (i + (7 - j)) 0)
      refl refl refl refl refl refl refl (rw add-zero)))

  pub unshuffle-all : (out : List ℕ) (i : ℕ) → Filled (unshuffle (take n s)) s out i → n ≤ i → out ≡ unshuffle (take n s) ++ drop n s
  unshuffle-all out i f h = filled-all f (rw unshuffle-long h) ∙ rw unshuffle-long
