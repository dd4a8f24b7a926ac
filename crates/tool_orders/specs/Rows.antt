-- Laws of a row of orders: blanks passed one by one, and where a line may begin. Assumes nothing.
use Rattle.std.specs.Prelude.{◌≡◌, Bool, true, false, cond, List, [], ◌∷◌, T, eqb, ltb, length, take, drop, get_or, Some, None, Option}
use Rattle.std.proofs.Math.Path.{refl}
use Rattle.std.proofs.Common.{sym, ap, subst, ◌∙◌, arith, drop_of_length-le}
use Prim.Native.Nat.{ℕ, suc, ◌+◌, ◌-◌, ◌≤◌, ◌<◌}
use borrow.Author.Tests.{eqb-true, ltb-true, lt-ltb, le-ltb, eq-eqb, ne_eqb}
use Rattle.base_lists.specs.Walk.{at}
use Rattle.base_hex.specs.Hex.{all_digits}
use Rattle.tool_orders.specs.Orders.{blank, nonce_digits, blank_at, line_at, order_of}

-- the first blank is sought from place i on
pub record Sought (row : List ℕ) (i : ℕ) : Type 0 where
  pub within : i ≤ length row
  pub left : blank_at row ≡ i + blank_at (drop i row)

pub sought-none : (row : List ℕ) → Sought row 0
sought-none row = record { within = omega arith; left = omega arith }

module _ {row : List ℕ} {i : ℕ} (w : Sought row i) where
  pub sought-found : i < length row → get_or row i 0 ≡ blank → i ≡ blank_at row
  unfolding blank_at
  sought-found h e =
      let z : blank_at (drop i row) ≡ 0 = rw (at row i h, eq-eqb (get_or row i 0) blank e) refl in
      omega (arith, w.left, z)

  pub sought-more : i < length row → (get_or row i 0 ≡ blank → ⊥) → Sought row (i + 1)
  unfolding blank_at
  sought-more h e =
      let z : blank_at (drop i row) ≡ suc (blank_at (drop (i + 1) row)) = rw (at row i h, ne_eqb (get_or row i 0) blank e) refl in
      record { within = omega arith; left = omega (arith, w.left, z) }

  pub sought-all : length row ≤ i → i ≡ blank_at row
  unfolding blank_at
  sought-all h =
      let z : blank_at (drop i row) ≡ 0 = rw (drop_of_length-le row {i = i} h) refl in
      omega (arith, w.left, z)

pub blank-within : (row : List ℕ) → blank_at row ≤ length row
unfolding blank_at
blank-within [] = omega arith
blank-within (b ∷ s) = go (eqb b blank) (blank-within s)
  where
    go : (t : Bool) → blank_at s ≤ length s → cond t 0 (suc (blank_at s)) ≤ suc (length s)
    go true h = omega arith
    go false h = omega (arith, h)

line_of : Option ℕ → ℕ
line_of (Some n) = n
line_of None = 0

is_line : Option ℕ → Bool
is_line (Some n) = true
is_line None = false

-- a line begins within its row
pub line-within : (row : List ℕ) (n : ℕ) → order_of row ≡ Some n → n ≤ length row
unfolding order_of line_of is_line
line-within row n e = go (eqb (blank_at row) nonce_digits) refl (all_digits (take nonce_digits row)) e
  where
    there : (t : Bool) → ltb nonce_digits (length row) ≡ t → nonce_digits ≤ length row → cond t (nonce_digits + 1) nonce_digits ≤ length row
    there true p h = omega (arith, ltb-true nonce_digits (length row) p)
    there false p h = h

    go : (t : Bool) → eqb (blank_at row) nonce_digits ≡ t → (u : Bool) → cond t (cond u (Some (line_at row)) None) None ≡ Some n → n ≤ length row
    go true p true q =
        let b = eqb-true (blank_at row) nonce_digits p in
        let l = there (ltb nonce_digits (length row)) refl (omega (arith, b, blank-within row)) in
        omega (arith, ap line_of q, l)
    go true p false q = absurd (subst T (sym (ap is_line q)) tt)
    go false p u q = absurd (subst T (sym (ap is_line q)) tt)

-- what a row is, by the tests of `judge_order`
module _ (row : List ℕ) (i : ℕ) (e : i ≡ blank_at row) where
  pub no-digits : (i ≡ nonce_digits → ⊥) → None ≡ order_of row
  unfolding order_of
  no-digits h = rw (ne_eqb (blank_at row) nonce_digits (λ q. h (e ∙ q))) refl

  module _ (f : i ≡ nonce_digits) (t : Bool) (d : t ≡ all_digits (take (i - 0) row)) where
    counted : eqb (blank_at row) nonce_digits ≡ true
    counted = eq-eqb (blank_at row) nonce_digits (sym e ∙ f)

    digits : all_digits (take nonce_digits row) ≡ t
    digits = let z : i - 0 ≡ nonce_digits = omega (arith, f) in ap (λ (n : ℕ). all_digits (take n row)) (sym z) ∙ sym d

    pub no-nonce : t ≡ false → None ≡ order_of row
    unfolding order_of
    no-nonce q = rw (counted, digits, q) refl

    pub line-behind : t ≡ true → i < length row → Some (i + 1) ≡ order_of row
    unfolding order_of
    line-behind q h = rw (counted, digits, q, lt-ltb nonce_digits (length row) (omega (arith, f, h)), f) refl

    pub line-empty : t ≡ true → length row ≤ i → Some i ≡ order_of row
    unfolding order_of
    line-empty q h = rw (counted, digits, q, le-ltb nonce_digits (length row) (omega (arith, f, h)), f) refl
