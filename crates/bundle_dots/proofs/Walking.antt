-- A text walked along beside a rule for its places. Assumes nothing.
use mathlib.Core.Path.{◌≡◌, refl}
use mathlib.Core.List.{List, [], ◌∷◌}
use Prim.Native.Nat.{ℕ, zero, suc, ◌+◌, ◌-◌, ◌≤◌, ◌<◌}
use native.Mathlib.Nat.{not-suc-le-zero}
use native.Mathlib.Omega.{arith}
use lib.ListN.{length, get_or, drop, drop_of_length-le}
use borrow.Author.Tests.{eq-eqb, ne_eqb}
use Rattle.base_lists.specs.Walk.{at}
use Rattle.bundle_dots.specs.Faults.{next_row, fault}

-- the text from place i on, held to what a rule says of the places that are left
module _ (f : ℕ → ℕ) (t : List ℕ) (left i row : ℕ) where
  pub fault-same : left ≡ 0 → length t ≤ i → fault f left i row (drop i t) ≡ 0
  unfolding fault
  fault-same e h = rw (e, drop_of_length-le t {i = i} h)

  pub fault-long : left ≡ 0 → i < length t → fault f left i row (drop i t) ≡ row
  unfolding fault
  fault-long e h = rw (e, at t i h)

  pub fault-short : 0 < left → length t ≤ i → fault f left i row (drop i t) ≡ row
  unfolding fault
  fault-short s h = rw (drop_of_length-le t {i = i} h) (go left s)
    where
      go : (m : ℕ) → 0 < m → fault f m i row [] ≡ row
      go zero h = absurd (not-suc-le-zero h)
      go (suc m) h = refl

  pub fault-differs : 0 < left → i < length t → (get_or t i 0 ≡ f i → ⊥) → fault f left i row (drop i t) ≡ row
  unfolding fault
  fault-differs s h n = rw (at t i h) (go left s)
    where
      go : (m : ℕ) → 0 < m → fault f m i row (get_or t i 0 ∷ drop (i + 1) t) ≡ row
      go zero h = absurd (not-suc-le-zero h)
      go (suc m) h = rw (ne_eqb (get_or t i 0) (f i) n)

  pub fault-on : 0 < left → i < length t → get_or t i 0 ≡ f i
      → fault f left i row (drop i t) ≡ fault f (left - 1) (i + 1) (next_row row (get_or t i 0)) (drop (i + 1) t)
  unfolding fault
  fault-on s h e = rw (at t i h) (go left s)
    where
      go : (m : ℕ) → 0 < m
          → fault f m i row (get_or t i 0 ∷ drop (i + 1) t) ≡ fault f (m - 1) (i + 1) (next_row row (get_or t i 0)) (drop (i + 1) t)
      go zero h = absurd (not-suc-le-zero h)
      go (suc m) h = let less : suc m - 1 ≡ m = omega arith in rw (less, eq-eqb (get_or t i 0) (f i) e)
