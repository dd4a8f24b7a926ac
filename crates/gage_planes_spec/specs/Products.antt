-- The product of a pair of cells by their bits, one digit of a plane each: a test at each of the sixteen pairs; and a byte of four products.
-- Assumes nothing.
use Rattle.std.specs.Prelude.{◌≡◌, Bool, ℕ, ◌+◌, ◌*◌, ◌/◌, ◌%◌, ◌≤◌, ◌<◌, min, eqb, replicate}
use Rattle.std.proofs.Common.{◌∙◌, eqb→eq}
use Rattle.std.proofs.Math.Path.{ap₂}
use native.Mathlib.Omega.{arith}
use Rattle.std.specs.Int.Bits.{differ}
use Rattle.std.proofs.Math.Dec.{T}
use Rattle.base_lists.specs.Table.{at, both, both_left, both_right}
use Rattle.gage_cells.specs.Cells.{star, table, substituted_byte}
use Rattle.gage_cells.specs.Quasigroup.{table-closed}
use Rattle.gage_shuffle.specs.Shuffling.{bit}
use Rattle.base_digits.specs.Held.{Held, WORD, held-xor, held-and, held-ones}
use Rattle.gage_planes_spec.specs.Planes.{upper, lower}

unfoldable pub upper_bit : ℕ → ℕ → ℕ → ℕ → ℕ
upper_bit y z u v = differ (differ y u) (min z (differ u v))

unfoldable pub lower_bit : ℕ → ℕ → ℕ → ℕ → ℕ
lower_bit y z u v = differ (differ (differ 1 (differ y z)) v) (min z (differ u v))

module _ {w y z u v : ℕ} {f g h k : ℕ → ℕ} (a : Held w y f) (b : Held w z g) (c : Held w u h) (d : Held w v k) where
  pub upper-held : Held w (upper y z u v) (λ i. upper_bit (f i) (g i) (h i) (k i))
  unfolding upper upper_bit
  upper-held = held-xor (held-xor a c) (held-and b (held-xor c d))

  pub lower-held : w ≤ WORD → Held w (lower y z u v) (λ i. lower_bit (f i) (g i) (h i) (k i))
  unfolding lower lower_bit
  lower-held l = held-xor (held-xor (held-xor (held-ones w l) (held-xor a b)) d) (held-and b (held-xor c d))

-- at each pair 4 x + y
pair_test : ℕ → ℕ → Bool
pair_test k q =
    both (eqb (star table (k / 4) (k % 4) / 2) (upper_bit (k / 4 / 2) (k / 4 % 2) (k % 4 / 2) (k % 4 % 2)))
    (eqb (star table (k / 4) (k % 4) % 2) (lower_bit (k / 4 / 2) (k / 4 % 2) (k % 4 / 2) (k % 4 % 2)))

module _ (x y : ℕ) (h : x < 4) (g : y < 4) where
  passed : T (both (eqb (star table x y / 2) (upper_bit (x / 2) (x % 2) (y / 2) (y % 2))) (eqb (star table x y % 2) (lower_bit (x / 2) (x % 2) (y / 2) (y % 2))))
  unfolding pair_test upper_bit lower_bit
  passed =
      let p : (x * 4 + y) / 4 ≡ x = omega arith in
      let q : (x * 4 + y) % 4 ≡ y = omega arith in
      let t : T (pair_test (x * 4 + y) 0) = at pair_test (replicate 16 0) tt (x * 4 + y) (omega arith) in
      rw (p, q) at t

  pub star-upper : star table x y / 2 ≡ upper_bit (x / 2) (x % 2) (y / 2) (y % 2)
  star-upper = eqb→eq (star table x y / 2) (upper_bit (x / 2) (x % 2) (y / 2) (y % 2)) (both_left (eqb (star table x y / 2)
      (upper_bit (x / 2) (x % 2) (y / 2) (y % 2))) (eqb (star table x y % 2) (lower_bit (x / 2) (x % 2) (y / 2) (y % 2))) passed)

  pub star-lower : star table x y % 2 ≡ lower_bit (x / 2) (x % 2) (y / 2) (y % 2)
  star-lower = eqb→eq (star table x y % 2) (lower_bit (x / 2) (x % 2) (y / 2) (y % 2)) (both_right (eqb (star table x y / 2)
      (upper_bit (x / 2) (x % 2) (y / 2) (y % 2))) (eqb (star table x y % 2) (lower_bit (x / 2) (x % 2) (y / 2) (y % 2))) passed)

-- four cells in a byte: their bits
module _ (a b c d : ℕ) (ha : a < 4) (hb : b < 4) (hc : c < 4) (hd : d < 4) where
  four0 : bit 0 (a * 64 + b * 16 + c * 4 + d) ≡ a / 2
  four0 = omega arith

  four1 : bit 1 (a * 64 + b * 16 + c * 4 + d) ≡ a % 2
  four1 = omega arith

  four2 : bit 2 (a * 64 + b * 16 + c * 4 + d) ≡ b / 2
  four2 = omega arith

  four3 : bit 3 (a * 64 + b * 16 + c * 4 + d) ≡ b % 2
  four3 = omega arith

  four4 : bit 4 (a * 64 + b * 16 + c * 4 + d) ≡ c / 2
  four4 = omega arith

  four5 : bit 5 (a * 64 + b * 16 + c * 4 + d) ≡ c % 2
  four5 = omega arith

  four6 : bit 6 (a * 64 + b * 16 + c * 4 + d) ≡ d / 2
  four6 = omega arith

  four7 : bit 7 (a * 64 + b * 16 + c * 4 + d) ≡ d % 2
  four7 = omega arith

-- the bits of a byte of the substitution, after the cell p
module _ (p b : ℕ) (hp : p < 4) (hb : b < 256) where
  -- the cells' bits are the byte's
  cell0 : b / 64 < 4
  cell0 = omega arith

  cell1 : b / 16 % 4 < 4
  cell1 = omega arith

  cell2 : b / 4 % 4 < 4
  cell2 = omega arith

  cell3 : b % 4 < 4
  cell3 = omega arith

  e0 : b / 64 / 2 ≡ bit 0 b
  e0 = omega arith

  e1 : b / 64 % 2 ≡ bit 1 b
  e1 = omega arith

  e2 : b / 16 % 4 / 2 ≡ bit 2 b
  e2 = omega arith

  e3 : b / 16 % 4 % 2 ≡ bit 3 b
  e3 = omega arith

  e4 : b / 4 % 4 / 2 ≡ bit 4 b
  e4 = omega arith

  e5 : b / 4 % 4 % 2 ≡ bit 5 b
  e5 = omega arith

  e6 : b % 4 / 2 ≡ bit 6 b
  e6 = omega arith

  e7 : b % 4 % 2 ≡ bit 7 b
  e7 = omega arith

  below : (x y : ℕ) → star table x y < 4
  below = table-closed.below

  pub byte0 : bit 0 (substituted_byte table p b) ≡ upper_bit (p / 2) (p % 2) (bit 0 b) (bit 1 b)
  unfolding substituted_byte
  byte0 = four0 _ _ _ _ (below p (b / 64)) (below (b / 64) (b / 16 % 4)) (below (b / 16 % 4) (b / 4 % 4)) (below (b / 4 % 4) (b % 4)) ∙ star-upper p (b / 64)
      hp cell0 ∙ ap₂ (upper_bit (p / 2) (p % 2)) e0 e1

  pub byte1 : bit 1 (substituted_byte table p b) ≡ lower_bit (p / 2) (p % 2) (bit 0 b) (bit 1 b)
  unfolding substituted_byte
  byte1 = four1 _ _ _ _ (below p (b / 64)) (below (b / 64) (b / 16 % 4)) (below (b / 16 % 4) (b / 4 % 4)) (below (b / 4 % 4) (b % 4)) ∙ star-lower p (b / 64)
      hp cell0 ∙ ap₂ (lower_bit (p / 2) (p % 2)) e0 e1

  pub byte2 : bit 2 (substituted_byte table p b) ≡ upper_bit (bit 0 b) (bit 1 b) (bit 2 b) (bit 3 b)
  unfolding substituted_byte
  byte2 = four2 _ _ _ _ (below p (b / 64)) (below (b / 64) (b / 16 % 4)) (below (b / 16 % 4) (b / 4 % 4)) (below (b / 4 % 4) (b % 4)) ∙ star-upper (b / 64)
      (b / 16 % 4) cell0 cell1 ∙ rw (e0, e1, e2, e3)

  pub byte3 : bit 3 (substituted_byte table p b) ≡ lower_bit (bit 0 b) (bit 1 b) (bit 2 b) (bit 3 b)
  unfolding substituted_byte
  byte3 = four3 _ _ _ _ (below p (b / 64)) (below (b / 64) (b / 16 % 4)) (below (b / 16 % 4) (b / 4 % 4)) (below (b / 4 % 4) (b % 4)) ∙ star-lower (b / 64)
      (b / 16 % 4) cell0 cell1 ∙ rw (e0, e1, e2, e3)

  pub byte4 : bit 4 (substituted_byte table p b) ≡ upper_bit (bit 2 b) (bit 3 b) (bit 4 b) (bit 5 b)
  unfolding substituted_byte
  byte4 = four4 _ _ _ _ (below p (b / 64)) (below (b / 64) (b / 16 % 4)) (below (b / 16 % 4) (b / 4 % 4)) (below (b / 4 % 4) (b % 4)) ∙ star-upper (b / 16 % 4)
      (b / 4 % 4) cell1 cell2 ∙ rw (e2, e3, e4, e5)

  pub byte5 : bit 5 (substituted_byte table p b) ≡ lower_bit (bit 2 b) (bit 3 b) (bit 4 b) (bit 5 b)
  unfolding substituted_byte
  byte5 = four5 _ _ _ _ (below p (b / 64)) (below (b / 64) (b / 16 % 4)) (below (b / 16 % 4) (b / 4 % 4)) (below (b / 4 % 4) (b % 4)) ∙ star-lower (b / 16 % 4)
      (b / 4 % 4) cell1 cell2 ∙ rw (e2, e3, e4, e5)

  pub byte6 : bit 6 (substituted_byte table p b) ≡ upper_bit (bit 4 b) (bit 5 b) (bit 6 b) (bit 7 b)
  unfolding substituted_byte
  byte6 = four6 _ _ _ _ (below p (b / 64)) (below (b / 64) (b / 16 % 4)) (below (b / 16 % 4) (b / 4 % 4)) (below (b / 4 % 4) (b % 4)) ∙ star-upper (b / 4 % 4)
      (b % 4) cell2 cell3 ∙ rw (e4, e5, e6, e7)

  pub byte7 : bit 7 (substituted_byte table p b) ≡ lower_bit (bit 4 b) (bit 5 b) (bit 6 b) (bit 7 b)
  unfolding substituted_byte
  byte7 = four7 _ _ _ _ (below p (b / 64)) (below (b / 64) (b / 16 % 4)) (below (b / 16 % 4) (b / 4 % 4)) (below (b / 4 % 4) (b % 4)) ∙ star-lower (b / 4 % 4)
      (b % 4) cell2 cell3 ∙ rw (e4, e5, e6, e7)
