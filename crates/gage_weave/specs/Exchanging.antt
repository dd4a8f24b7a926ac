-- Digits that change places, and a block of eight bytes turned about. Assumes nothing.
use Rattle.std.specs.Prelude.{◌≡◌, refl, Bool, cond, T, eqb, ltb, replicate}
use Rattle.std.proofs.Common.{sym, ◌∙◌, eqb→eq, ltb→lt, lt-ltb, le-ltb}
use Rattle.std.proofs.Math.Path.{ap, ap₂}
use Prim.Native.Nat.{ℕ, zero, suc, ◌+◌, ◌-◌, ◌*◌, ◌/◌, ◌%◌, ◌^◌, ◌≤◌, ◌<◌, min}
use Rattle.std.proofs.Math.Nat.{min-zero, min-eq_left}
use Rattle.std.proofs.Math.Decide.{dec_lt}
use native.Mathlib.Omega.{arith}
use Rattle.std.specs.Int.Bits.{bit_and, bit_xor, differ}
use Rattle.base_lists.specs.Table.{at, both, both_left, both_right}
use Rattle.base_digits.specs.Digits.{digit, differ-none, digit-below, digit-xor, digit_and, digit-shr, digit-mod, digit-shl-low, digit-shl-high}
use Rattle.gage_weave.specs.Weaving.{exchanged, woven}

-- whether the digit j before q is one that goes there
abbrev past : ℕ → ℕ → ℕ → ℕ
past j m q = cond (ltb q j) 0 (digit m (q - j))

abbrev pick : ℕ → ℕ → ℕ → ℕ → ℕ → ℕ
pick zero zero a b c = a
pick zero (suc y) a b c = c
pick (suc x) y a b c = b

-- where digit q comes from
abbrev moved : ℕ → ℕ → ℕ → ℕ
moved j m q = pick (digit m q) (past j m q) q (j + q) (q - j)

-- bits
differ-below : (x y : ℕ) → x < 2 → y < 2 → differ x y < 2
differ-below zero y h g = g
differ-below (suc x) zero h g = h
differ-below (suc zero) (suc y) h g = omega arith
differ-below (suc (suc x)) (suc y) h g = absurd (omega arith)

differ_back : (x y : ℕ) → x < 2 → y < 2 → differ x (differ x y) ≡ y
differ_back zero y h g = refl
differ_back (suc zero) zero h g = refl
differ_back (suc zero) (suc zero) h g = refl
differ_back (suc zero) (suc (suc y)) h g = absurd (omega arith)
differ_back (suc (suc x)) y h g = absurd (omega arith)

differ-over : (x z : ℕ) → x < 2 → z < 2 → differ x (differ z x) ≡ z
differ-over zero zero h g = refl
differ-over zero (suc z) h g = refl
differ-over (suc zero) zero h g = refl
differ-over (suc zero) (suc zero) h g = refl
differ-over (suc zero) (suc (suc z)) h g = absurd (omega arith)
differ-over (suc (suc x)) z h g = absurd (omega arith)

kept : (x : ℕ) → x < 2 → min x 1 ≡ x
kept x h = min-eq_left (let g : x ≤ 1 = omega arith in g)

-- three bits, of which at most one takes the place of the first
bits-moved : (x y z a b : ℕ) → x < 2 → y < 2 → z < 2 → a + b < 2
    → differ (differ x (min (differ x y) a)) (min (differ z x) b) ≡ pick a b x y z
bits-moved x y z zero zero hx hy hz h =
    ap₂ (λ (c d : ℕ). differ (differ x c) d) (min-zero (differ x y)) (min-zero (differ z x)) ∙ differ-none (differ x 0) ∙ differ-none x
bits-moved x y z zero (suc zero) hx hy hz h =
    ap₂ (λ (c d : ℕ). differ (differ x c) d) (min-zero (differ x y)) (kept (differ z x) (differ-below z x hz hx))
    ∙ ap (λ (c : ℕ). differ c (differ z x)) (differ-none x) ∙ differ-over x z hx hz
bits-moved x y z zero (suc (suc b)) hx hy hz h = absurd (omega arith)
bits-moved x y z (suc zero) zero hx hy hz h =
    ap₂ (λ (c d : ℕ). differ (differ x c) d) (kept (differ x y) (differ-below x y hx hy)) (min-zero (differ z x))
    ∙ differ-none (differ x (differ x y)) ∙ differ_back x y hx hy
bits-moved x y z (suc zero) (suc b) hx hy hz h = absurd (omega arith)
bits-moved x y z (suc (suc a)) b hx hy hz h = absurd (omega arith)

-- a digit picked is the digit of a place picked
pick-digit : (x a b p q r : ℕ) → pick a b (digit x p) (digit x q) (digit x r) ≡ digit x (pick a b p q r)
pick-digit x zero zero p q r = refl
pick-digit x zero (suc b) p q r = refl
pick-digit x (suc a) b p q r = refl

module _ (x j m q : ℕ) (fits : q < 64) where
  moving : ℕ → ℕ
  moving k = digit (bit_and (bit_xor x (x / 2 ^ j)) m) k

  moving-is : (k : ℕ) → moving k ≡ min (differ (digit x k) (digit x (j + k))) (digit m k)
  unfolding moving
  moving-is k =
      digit_and (bit_xor x (x / 2 ^ j)) m k
      ∙ ap (λ (d : ℕ). min d (digit m k)) (digit-xor x (x / 2 ^ j) k ∙ ap (differ (digit x k)) (digit-shr x j k))

  -- those that come from j before
  moved_up : digit (bit_and (bit_xor x (x / 2 ^ j)) m * 2 ^ j) q ≡ min (differ (digit x (q - j)) (digit x q)) (past j m q)
  unfolding moving
  moved_up = elim (dec_lt q j) [
    | yes p ↦ digit-shl-low (bit_and (bit_xor x (x / 2 ^ j)) m) j q p ∙ rw (lt-ltb q j p) (sym (min-zero (differ (digit x (q - j)) (digit x q))))
    | no p ↦
        let l : j ≤ q = omega (arith, p) in
        let e : j + (q - j) ≡ q = omega arith in
        rw (le-ltb q j l)
        (ap (digit (bit_and (bit_xor x (x / 2 ^ j)) m * 2 ^ j)) (sym e)
        ∙ digit-shl-high (bit_and (bit_xor x (x / 2 ^ j)) m) j (q - j)
        ∙ moving-is (q - j)
        ∙ ap (λ (k : ℕ). min (differ (digit x (q - j)) (digit x k)) (digit m (q - j))) e)
  ]

  pub digit-exchanged : digit m q + past j m q < 2 → digit (exchanged x j m) q ≡ digit x (moved j m q)
  unfolding exchanged moving
  digit-exchanged h =
      let t = bit_and (bit_xor x (x / 2 ^ j)) m in
      digit-xor (bit_xor x t) (t * 2 ^ j % 2 ^ 64) q
      ∙ ap₂ differ (digit-xor x t q ∙ ap (differ (digit x q)) (moving-is q)) (digit-mod (t * 2 ^ j) 64 q fits ∙ moved_up)
      ∙ bits-moved (digit x q) (digit x (j + q)) (digit x (q - j)) (digit m q) (past j m q) (digit-below x q) (digit-below x (j + q)) (digit-below x (q - j)) h
      ∙ pick-digit x (digit m q) (past j m q) q (j + q) (q - j)

-- the three exchanges: where each of the 64 digits comes from, by one test at each
abbrev fine : ℕ → ℕ → ℕ → Bool
fine j m q = both (ltb q 64) (ltb (digit m q + past j m q) 2)

abbrev from4 : ℕ → ℕ
from4 q = moved 28 0x00000000F0F0F0F0 q

abbrev from2 : ℕ → ℕ
from2 q = moved 14 0x0000CCCC0000CCCC q

abbrev from1 : ℕ → ℕ
from1 q = moved 7 0x00AA00AA00AA00AA q

about : ℕ → ℕ → Bool
about q z =
    both (fine 28 0x00000000F0F0F0F0 q)
    (both (fine 14 0x0000CCCC0000CCCC (from4 q))
    (both (fine 7 0x00AA00AA00AA00AA (from2 (from4 q))) (eqb (from1 (from2 (from4 q))) (q % 8 * 8 + q / 8))))

fine-held : (x j m q : ℕ) → T (fine j m q) → digit (exchanged x j m) q ≡ digit x (moved j m q)
fine-held x j m q t =
    digit-exchanged x j m q (ltb→lt q 64 (both_left (ltb q 64) (ltb (digit m q + past j m q) 2) t))
    (ltb→lt (digit m q + past j m q) 2 (both_right (ltb q 64) (ltb (digit m q + past j m q) 2) t))

tested : (q : ℕ) → q < 64 → T (about q 0)
unfolding about digit
tested q h = at about (replicate 64 0) tt q h

pub digit-woven : (x q : ℕ) → q < 64 → digit (woven x) q ≡ digit x (q % 8 * 8 + q / 8)
unfolding about
digit-woven x q h =
    let y = exchanged x 7 0x00AA00AA00AA00AA in
    let z = exchanged y 14 0x0000CCCC0000CCCC in
    let b = fine 14 0x0000CCCC0000CCCC (from4 q) in
    let c = fine 7 0x00AA00AA00AA00AA (from2 (from4 q)) in
    let d = eqb (from1 (from2 (from4 q))) (q % 8 * 8 + q / 8) in
    let t = tested q h in
    let t2 = both_right (fine 28 0x00000000F0F0F0F0 q) (both b (both c d)) t in
    let t3 = both_right b (both c d) t2 in
    fine-held z 28 0x00000000F0F0F0F0 q (both_left (fine 28 0x00000000F0F0F0F0 q) (both b (both c d)) t)
    ∙ fine-held y 14 0x0000CCCC0000CCCC (from4 q) (both_left b (both c d) t2)
    ∙ fine-held x 7 0x00AA00AA00AA00AA (from2 (from4 q)) (both_left c d t3)
    ∙ ap (digit x) (eqb→eq (from1 (from2 (from4 q))) (q % 8 * 8 + q / 8) (both_right c d t3))
