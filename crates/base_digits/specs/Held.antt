-- A number whose lowest v digits are f 0, f 1, ..: what each operation of the machine makes of such numbers. What stands above them is anything.
-- Assumes nothing.
use Rattle.std.specs.Prelude.{◌≡◌, refl, Bool, ℕ, zero, suc, ◌+◌, ◌-◌, ◌*◌, ◌/◌, ◌%◌, ◌^◌, ◌≤◌, ◌<◌, min, eqb, replicate}
use Rattle.std.proofs.Common.{sym, ap, ap₂, ◌∙◌, arith, eqb→eq}
use Rattle.std.proofs.Math.Decide.{dec_lt}
use Rattle.std.specs.Int.Bits.{bit_and, bit_xor, differ}
use Rattle.std.proofs.lemmas.Nat.{and_mask}
use Rattle.base_lists.specs.Table.{at}
use Rattle.base_digits.specs.Digits.{digit, digit-xor, digit_and, digit-shr, digit-mod, digit-shl-low, digit-shl-high, digit-high}

pub record Held (v x : ℕ) (f : ℕ → ℕ) : Type 0 where
  pub digits : (i : ℕ) → i < v → digit x i ≡ f i

-- the bits of a machine word, and the largest of them
abbrev pub WORD : ℕ
WORD = 64

abbrev pub ONES : ℕ
ONES = 0xFFFFFFFFFFFFFFFF

pub held-self : (v x : ℕ) → Held v x (digit x)
held-self v x = record { digits = λ i h. refl }

module _ {v x : ℕ} {f : ℕ → ℕ} (a : Held v x f) where
  pub held_same : (g : ℕ → ℕ) → ((i : ℕ) → i < v → f i ≡ g i) → Held v x g
  held_same g e = record { digits = λ i h. a.digits i h ∙ e i h }

  pub held-fewer : (w : ℕ) → w ≤ v → Held w x f
  held-fewer w l = record { digits = λ i h. a.digits i (omega arith) }

  pub held-xor : {y : ℕ} {g : ℕ → ℕ} → Held v y g → Held v (bit_xor x y) (λ i. differ (f i) (g i))
  held-xor {y} b = record { digits = λ i h. digit-xor x y i ∙ ap₂ differ (a.digits i h) (b.digits i h) }

  pub held-and : {y : ℕ} {g : ℕ → ℕ} → Held v y g → Held v (bit_and x y) (λ i. min (f i) (g i))
  held-and {y} b = record { digits = λ i h. digit_and x y i ∙ ap₂ min (a.digits i h) (b.digits i h) }

  pub held-shr : (j w : ℕ) → j + w ≤ v → Held w (x / 2 ^ j) (λ i. f (j + i))
  held-shr j w l = record { digits = λ i h. digit-shr x j i ∙ a.digits (j + i) (omega arith) }

  -- the v lowest digits of a word shifted to the left by j
  pub held-shl : (j w : ℕ) → w ≤ WORD → w ≤ j + v → (g : ℕ → ℕ) → ((i : ℕ) → i < j → g i ≡ 0) → ((i : ℕ) → i < v → g (j + i) ≡ f i)
      → Held w (x * 2 ^ j % 2 ^ WORD) g
  held-shl j w l k g low high = record {
    digits = λ i h. digit-mod (x * 2 ^ j) WORD i (omega arith) ∙ elim (dec_lt i j) [
      | yes p ↦ digit-shl-low x j i p ∙ sym (low i p)
      | no p ↦
          let r = i - j in
          let e : i ≡ j + r = omega (arith, p) in
          rw e (digit-shl-high x j r ∙ a.digits r (omega (arith, p)) ∙ sym (high r (omega (arith, p))))
    ];
  }

-- all digits set: one test at each
ones-test : ℕ → ℕ → Bool
ones-test i z = eqb (digit ONES i) 1

pub ones-digit : (i : ℕ) → i < WORD → digit ONES i ≡ 1
unfolding ones-test digit
ones-digit i h = eqb→eq (digit ONES i) 1 (at ones-test (replicate 64 0) tt i h)

pub held-ones : (v : ℕ) → v ≤ WORD → Held v ONES (λ i. 1)
held-ones v l = record { digits = λ i h. ones-digit i (omega arith) }
