-- Laws of digits that are read: tested one by one, the value of each, and the bytes that they are. Assumes nothing.
use Rattle.std.specs.Prelude.{◌≡◌, Bool, true, cond, ◌&&◌, List, ℕ, zero, suc, ◌+◌, ◌-◌, ◌≤◌, ◌<◌, T, leb, length, drop, get_or, Some, None, Option}
use Rattle.std.proofs.Math.Path.{refl, sym}
use Rattle.std.proofs.Common.{ap, subst, ◌∙◌, not-suc-le-zero, le_of_suc-le-suc, arith, drop_of_length-le, ext_get_or, leb-true}
use Rattle.std.proofs.Math.Bool.{false}
use Rattle.std.proofs.Math.ListN.{get_or-eq_default}
use Rattle.base_lists.specs.Walk.{at}
use Rattle.base_lists.specs.Upto.{Upto}
use Rattle.base_hex.specs.Hex.{value_of, between, is_digit, all_digits, digit_of, digit_at, byte_at, bytes_from}

-- digits are tested from place i on
pub record Tested (text : List ℕ) (i : ℕ) : Type 0 where
  pub within : i ≤ length text
  pub left : all_digits text ≡ all_digits (drop i text)

pub tested-none : (text : List ℕ) → Tested text 0
tested-none text = record { within = omega arith; left = refl }

module _ {text : List ℕ} {i : ℕ} (w : Tested text i) where
  pub tested-more : i < length text → (d : Option ℕ) → d ≡ value_of (get_or text i 0) → is_digit d ≡ true → Tested text (i + 1)
  unfolding all_digits
  tested-more h d e f =
      let z : all_digits (drop i text) ≡ all_digits (drop (i + 1) text) = rw (at text i h, ← e, f) refl in
      record { within = omega arith; left = w.left ∙ z }

  pub tested-not : i < length text → (d : Option ℕ) → d ≡ value_of (get_or text i 0) → is_digit d ≡ false → false ≡ all_digits text
  unfolding all_digits
  tested-not h d e f =
      let z : all_digits (drop i text) ≡ false = rw (at text i h, ← e, f) refl in
      sym (w.left ∙ z)

  pub tested-all : length text ≤ i → true ≡ all_digits text
  unfolding all_digits
  tested-all h = sym (w.left ∙ rw (drop_of_length-le text {i = i} h) refl)

-- a digit's value
between-both : (a c b : ℕ) → between a c b ≡ true → (a ≤ c) × (c ≤ b)
between-both a c b e = go (leb a c) refl (leb c b) refl e
  where
    go : (t : Bool) → leb a c ≡ t → (u : Bool) → leb c b ≡ u → (t && u) ≡ true → (a ≤ c) × (c ≤ b)
    go true p true q f = (leb-true a c p, leb-true c b q)
    go true p false q f = absurd (subst T (sym f) tt)
    go false p u q f = absurd (subst T (sym f) tt)

pub digit-below : (c : ℕ) → digit_of (value_of c) < 16
unfolding value_of
digit-below c = go (between 0x30 c 0x39) refl (between 0x41 c 0x46) refl (between 0x61 c 0x66) refl
  where
    go : (t : Bool) → between 0x30 c 0x39 ≡ t → (u : Bool) → between 0x41 c 0x46 ≡ u → (v : Bool) → between 0x61 c 0x66 ≡ v
        → digit_of (cond t (Some (c - 0x30)) (cond u (Some (c - 0x37)) (cond v (Some (c - 0x57)) None))) < 16
    go true p u q v r = let b = between-both 0x30 c 0x39 p in omega (arith, b.0, b.1)
    go false p true q v r = let b = between-both 0x41 c 0x46 q in omega (arith, b.0, b.1)
    go false p false q true r = let b = between-both 0x61 c 0x66 r in omega (arith, b.0, b.1)
    go false p false q false r = omega arith

-- the digit at a place, and past the row's end
pub digit-known : (row : List ℕ) (i : ℕ) (d x : Option ℕ) → d ≡ value_of (get_or row i 0) → d ≡ x → (digit_of x ≡ digit_at row i) × (digit_of x < 16)
unfolding digit_at
digit-known row i d x e f = let q : x ≡ value_of (get_or row i 0) = sym f ∙ e in (ap digit_of q, rw q (digit-below (get_or row i 0)))

pub digit-none : (row : List ℕ) (i : ℕ) → length row ≤ i → (0 ≡ digit_at row i) × (0 < 16)
unfolding digit_at value_of
digit-none row i h = (rw (get_or-eq_default row 0 {n = i} h) refl, omega arith)

pub length-bytes : (row : List ℕ) (i n : ℕ) → length (bytes_from row i n) ≡ n
unfolding bytes_from
length-bytes row i zero = refl
length-bytes row i (suc n) = ap suc (length-bytes row (suc i) n)

get_d-bytes : (row : List ℕ) (i n k : ℕ) → k < n → get_or (bytes_from row i n) k 0 ≡ byte_at row (i + k)
unfolding bytes_from
get_d-bytes row i zero k h = absurd (not-suc-le-zero h)
get_d-bytes row i (suc n) zero h = let z : i + 0 ≡ i = omega arith in rw z refl
get_d-bytes row i (suc n) (suc k) h = let z : i + suc k ≡ suc i + k = omega arith in rw z (get_d-bytes row (suc i) n k (le_of_suc-le-suc h))

-- n bytes by the rule are the bytes from 0 on
pub bytes-by : (row l : List ℕ) (n : ℕ) → length l ≡ n → Upto (byte_at row) l n → l ≡ bytes_from row 0 n
bytes-by row l n e u =
    ext_get_or 0 l (bytes_from row 0 n) (e ∙ sym (length-bytes row 0 n))
    (λ k h. let z : 0 + k ≡ k = omega arith in u.at k (omega (arith, h, e)) ∙ ap (byte_at row) (sym z) ∙ sym (get_d-bytes row 0 n k (omega (arith, h, e))))
