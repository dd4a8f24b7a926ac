-- The binary digits of a number, digit 0 the lowest, and what the machine's operations do to them. Assumes nothing.
use Rattle.std.specs.Prelude.{◌≡◌, refl, ℕ, zero, suc, ◌+◌, ◌-◌, ◌*◌, ◌/◌, ◌%◌, ◌^◌, ◌≤◌, ◌<◌, min}
use Rattle.std.proofs.Common.{sym, ap, ap₂, ◌∙◌, mod-lt, zero-lt-suc, lt_of_lt_of_le, mul_assoc, mul_comm, add_comm, arith, shr-shr, shr_lt, pow-add, pow_mono}
use Rattle.std.proofs.Math.Nat.{div-eq_of_lt, mul-mod_left}
use Rattle.std.specs.Int.Bits.{bit_and, bit_xor, differ}
use Rattle.std.proofs.lemmas.Nat.{xor_shr, xor_mod, and_shr, and_mod, and_mask, shl-shr}
use Rattle.std.proofs.Math.Pow.{field, mod-mod-pow}

unfoldable pub digit : ℕ → ℕ → ℕ
digit x i = x / 2 ^ i % 2

pub digit-below : (x i : ℕ) → digit x i < 2
unfolding digit
digit-below x i = mod-lt (x / 2 ^ i) (zero-lt-suc 1)

-- the lowest digit of a digit is itself
pub digit-zero : (x : ℕ) → x < 2 → digit x 0 ≡ x
unfolding digit
digit-zero x h = omega arith

pub differ-none : (x : ℕ) → differ x 0 ≡ x
differ-none zero = refl
differ-none (suc x) = refl

-- XOR and AND go digit by digit
bit-xor : (a b : ℕ) → a < 2 → b < 2 → bit_xor a b ≡ differ a b
bit-xor zero b h g = refl
bit-xor (suc zero) zero h g = refl
bit-xor (suc zero) (suc zero) h g = refl
bit-xor (suc zero) (suc (suc b)) h g = absurd (omega arith)
bit-xor (suc (suc a)) b h g = absurd (omega arith)

bit-and : (a b : ℕ) → a < 2 → b < 2 → bit_and a b ≡ min a b
bit-and zero zero h g = refl
bit-and zero (suc zero) h g = refl
bit-and zero (suc (suc b)) h g = absurd (omega arith)
bit-and (suc zero) zero h g = refl
bit-and (suc zero) (suc zero) h g = refl
bit-and (suc zero) (suc (suc b)) h g = absurd (omega arith)
bit-and (suc (suc a)) b h g = absurd (omega arith)

pub digit-xor : (x y i : ℕ) → digit (bit_xor x y) i ≡ differ (digit x i) (digit y i)
unfolding digit
digit-xor x y i =
    ap (λ (z : ℕ). z % 2) (xor_shr x y i) ∙ xor_mod (x / 2 ^ i) (y / 2 ^ i) 1
    ∙ bit-xor (x / 2 ^ i % 2) (y / 2 ^ i % 2) (mod-lt (x / 2 ^ i) (zero-lt-suc 1)) (mod-lt (y / 2 ^ i) (zero-lt-suc 1))

pub digit_and : (x y i : ℕ) → digit (bit_and x y) i ≡ min (digit x i) (digit y i)
unfolding digit
digit_and x y i =
    ap (λ (z : ℕ). z % 2) (and_shr x y i) ∙ and_mod (x / 2 ^ i) (y / 2 ^ i) 1
    ∙ bit-and (x / 2 ^ i % 2) (y / 2 ^ i % 2) (mod-lt (x / 2 ^ i) (zero-lt-suc 1)) (mod-lt (y / 2 ^ i) (zero-lt-suc 1))

-- a shift to the right, a remainder
pub digit-shr : (x j i : ℕ) → digit (x / 2 ^ j) i ≡ digit x (j + i)
unfolding digit
digit-shr x j i = ap (λ (z : ℕ). z % 2) (shr-shr x j i)

pub digit-mod : (x w i : ℕ) → i < w → digit (x % 2 ^ w) i ≡ digit x i
unfolding digit
digit-mod x w i h =
    let r = w - i - 1 in
    let e : w ≡ r + 1 + i = omega arith in
    ap (λ (k : ℕ). x % 2 ^ k / 2 ^ i % 2) e ∙ ap (λ (z : ℕ). z % 2) (field x (r + 1) i) ∙ mod-mod-pow (x / 2 ^ i) r 1

pub digit-high : (x w i : ℕ) → x < 2 ^ w → w ≤ i → digit x i ≡ 0
unfolding digit
digit-high x w i h g = ap (λ (z : ℕ). z % 2) (div-eq_of_lt (lt_of_lt_of_le h (pow_mono g)))

-- a shift to the left
pub digit-shl-low : (x k i : ℕ) → i < k → digit (x * 2 ^ k) i ≡ 0
unfolding digit
digit-shl-low x k i h =
    let r = k - i - 1 in
    let e : k ≡ r + 1 + i = omega arith in
    ap (λ (m : ℕ). x * 2 ^ m / 2 ^ i % 2) e
    ∙ ap (λ (z : ℕ). x * z / 2 ^ i % 2) (pow-add 2 (r + 1) i)
    ∙ ap (λ (z : ℕ). z / 2 ^ i % 2) (sym (mul_assoc x (2 ^ (r + 1)) (2 ^ i)))
    ∙ ap (λ (z : ℕ). z % 2) (shl-shr (x * 2 ^ (r + 1)) i)
    ∙ ap (λ (z : ℕ). x * z % 2) (pow-add 2 r 1)
    ∙ ap (λ (z : ℕ). z % 2) (sym (mul_assoc x (2 ^ r) 2))
    ∙ mul-mod_left (x * 2 ^ r) 2

pub digit-shl-high : (x k i : ℕ) → digit (x * 2 ^ k) (k + i) ≡ digit x i
unfolding digit
digit-shl-high x k i = ap (λ (z : ℕ). z % 2) (sym (shr-shr (x * 2 ^ k) k i) ∙ ap (λ (z : ℕ). z / 2 ^ i) (shl-shr x k))

-- numbers of k digits that are the same are the same
pub digits_same : (k a b : ℕ) → a < 2 ^ k → b < 2 ^ k → ((j : ℕ) → j < k → digit a j ≡ digit b j) → a ≡ b
unfolding digit
digits_same zero a b h g e = omega arith
digits_same (suc k) a b h g e =
    let n : suc k ≡ k + 1 = omega arith in
    let halves : a / 2 ≡ b / 2 =
    digits_same k (a / 2) (b / 2) (shr_lt k 1 (rw n at h)) (shr_lt k 1 (rw n at g))
    (λ j l. digit-shr a 1 j ∙ e (1 + j) (omega arith) ∙ sym (digit-shr b 1 j)) in
    let lowest : a / 2 ^ 0 % 2 ≡ b / 2 ^ 0 % 2 = e 0 (omega arith) in
    omega arith
