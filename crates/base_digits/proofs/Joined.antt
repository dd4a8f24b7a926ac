-- Bytes joined to a number, the first lowest, and the digits of each. Assumes nothing.
use Rattle.std.specs.Prelude.{◌≡◌, refl, List, [], ◌∷◌, ℕ, zero, suc, ◌+◌, ◌-◌, ◌*◌, ◌/◌, ◌%◌, ◌^◌, ◌≤◌, ◌<◌, get_or}
use Rattle.std.proofs.Common.{sym, ap, ap₂, ◌∙◌, mod-lt, arith}
use Rattle.std.specs.Int.Bits.{bit_xor, differ}
use Rattle.std.proofs.lemmas.Nat.{xor_lt}
use Rattle.base_digits.specs.Digits.{digit, differ-none, digit-xor, digit-shr, digit-mod, digit-high, digit-shl-low, digit-shl-high}
use Rattle.base_digits.specs.Joined.{grown, joined}

pub grown-below : (q x : ℕ) → grown q x < 2 ^ 64
unfolding grown
grown-below q x = xor_lt 64 (q * 2 ^ 8 % 2 ^ 64) (x % 256) (mod-lt (q * 2 ^ 8) (omega arith)) (omega arith)

pub joined-below : (bs : List ℕ) → joined bs < 2 ^ 64
joined-below [] = omega arith
joined-below (b ∷ bs) = grown-below (joined bs) b

pub grown-low : (q x i : ℕ) → i < 8 → digit (grown q x) i ≡ digit x i
unfolding grown
grown-low q x i h =
    digit-xor (q * 2 ^ 8 % 2 ^ 64) (x % 256) i
    ∙ ap₂ differ (digit-mod (q * 2 ^ 8) 64 i (omega arith) ∙ digit-shl-low q 8 i h) (digit-mod x 8 i h)

pub grown-high : (q x i : ℕ) → 8 + i < 64 → digit (grown q x) (8 + i) ≡ digit q i
unfolding grown
grown-high q x i h =
    digit-xor (q * 2 ^ 8 % 2 ^ 64) (x % 256) (8 + i)
    ∙ ap₂ differ (digit-mod (q * 2 ^ 8) 64 (8 + i) h ∙ digit-shl-high q 8 i) (digit-high (x % 256) 8 (8 + i) (omega arith) (omega arith))
    ∙ differ-none (digit q i)

-- also behind the last, where there is nothing
pub digit-joined : (bs : List ℕ) (r j : ℕ) → j < 8 → 8 * r + j < 64 → digit (joined bs) (8 * r + j) ≡ digit (get_or bs r 0) j
digit-joined [] r j h g = digit-high 0 0 (8 * r + j) (omega arith) (omega arith) ∙ sym (digit-high 0 0 j (omega arith) (omega arith))
digit-joined (b ∷ bs) zero j h g = ap (digit (grown (joined bs) b)) (let e : 8 * 0 + j ≡ j = omega arith in e) ∙ grown-low (joined bs) b j h
digit-joined (b ∷ bs) (suc r) j h g =
    let e : 8 * suc r + j ≡ 8 + (8 * r + j) = omega arith in
    ap (digit (grown (joined bs) b)) e ∙ grown-high (joined bs) b (8 * r + j) (omega arith) ∙ digit-joined bs r j h (omega arith)
