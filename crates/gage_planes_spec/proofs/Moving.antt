-- The shuffle of a state in planes, whichever way its planes are shifted: the one law that ties `moved` to document 000's formulas 1.3 and 1.4 as they are
-- read in `element`, `places` and `weight` of the crate gage_shuffle; then planes drawn out, and planes as wide as a number. Assumes nothing.
use Rattle.std.specs.Prelude.{◌≡◌, List, get_or}
use Rattle.std.proofs.Common.{sym, ◌∙◌, mod-lt, add_comm}
use Rattle.std.proofs.Math.Path.{ap, ap₂}
use Prim.Native.Nat.{ℕ, ◌+◌, ◌-◌, ◌*◌, ◌/◌, ◌%◌, ◌^◌, ◌≤◌, ◌<◌, min}
use Rattle.std.proofs.Math.Nat.{mod-add-mod, min-zero, min-eq_left}
use Rattle.std.proofs.Math.Decide.{dec_lt}
use native.Mathlib.Omega.{arith}
use Rattle.std.specs.Int.Bits.{bit_and, differ}
use Rattle.std.proofs.Math.ListN.{length}
use Rattle.gage_shuffle.specs.Shuffling.{bit, element, weights, shuffled_byte, shuffle}
use Rattle.gage_shuffle.specs.Bits.{placed-back}
use Rattle.gage_shuffle.specs.States.{length-shuffle, shuffle-at}
use Rattle.base_digits.specs.Digits.{digit, differ-none, digit-below, digit-xor, digit_and, digit-shr, digit-mod, digit-high, digit-shl-low, digit-shl-high}
use Rattle.base_digits.specs.Held.{Held, WORD, ONES, ones-digit, held-shr, held_same, held-fewer}
use Rattle.gage_planes_spec.specs.declared.Planes.{Planes}
use Rattle.gage_planes_spec.specs.Planes.{moved, slid, rolled, rolled_all}
use Rattle.gage_planes_spec.specs.Columns.{column, column-around, Holds}

module _ (s : List ℕ) (some : 0 < length s) where
  -- element j + 1 stands at its place in the shuffled state
  shuffled-column : (j i : ℕ) → j < 8 → get_or (shuffle s) (i % length (shuffle s)) 0 / get_or weights j 1 % 2 ≡ column (7 - j) s (j + i)
  unfolding column shuffled_byte
  shuffled-column j i h =
      rw (length-shuffle s, shuffle-at s (i % length s) (mod-lt i some), placed-back (element s (i % length s)) (λ k. omega arith) j h)
      (ap (λ (m : ℕ). bit (7 - j) (get_or s m 0)) (mod-add-mod i (length s) j ∙ ap (λ (m : ℕ). m % length s) (add_comm i j)))

  -- and is read there in planes that begin at byte o
  arrived : (o j i : ℕ) → j < 8 → column (7 - j) s (o + (j + i)) ≡ get_or (shuffle s) ((o + i) % length (shuffle s)) 0 / get_or weights j 1 % 2
  arrived o j i h =
      let e : o + (j + i) ≡ j + (o + i) = omega arith in
      ap (column (7 - j) s) e ∙ sym (shuffled-column j (o + i) h)

  -- whatever shifts x by j, so that of u digits v are held
  module _ (o u v : ℕ) (by : ℕ → ℕ → ℕ) (fewer : v ≤ u)
      (shifts : (x j b : ℕ) → 0 < j → j < 8 → Held u x (λ i. column b s (o + i)) → Held v (by x j) (λ i. column b s (o + (j + i)))) where
    pub moved_holds : {p : Planes} → Holds o u p s → Holds o v (moved by p) (shuffle s)
    unfolding column
    moved_holds {p} a = record {
      plane0 = held_same (held-fewer a.plane7 v fewer) (λ i. column 0 (shuffle s) (o + i))
          (λ i h. ap (column 7 s) (let e : o + i ≡ o + (0 + i) = omega arith in e) ∙ arrived o 0 i (omega arith));
      plane1 = held_same (shifts p.b 6 1 (omega arith) (omega arith) a.plane1) (λ i. column 1 (shuffle s) (o + i)) (λ i h. arrived o 6 i (omega arith));
      plane2 = held_same (shifts p.g 1 6 (omega arith) (omega arith) a.plane6) (λ i. column 2 (shuffle s) (o + i)) (λ i h. arrived o 1 i (omega arith));
      plane3 = held_same (shifts p.a 7 0 (omega arith) (omega arith) a.plane0) (λ i. column 3 (shuffle s) (o + i)) (λ i h. arrived o 7 i (omega arith));
      plane4 = held_same (shifts p.f 2 5 (omega arith) (omega arith) a.plane5) (λ i. column 4 (shuffle s) (o + i)) (λ i h. arrived o 2 i (omega arith));
      plane5 = held_same (shifts p.c 5 2 (omega arith) (omega arith) a.plane2) (λ i. column 5 (shuffle s) (o + i)) (λ i h. arrived o 5 i (omega arith));
      plane6 = held_same (shifts p.d 4 3 (omega arith) (omega arith) a.plane3) (λ i. column 6 (shuffle s) (o + i)) (λ i h. arrived o 4 i (omega arith));
      plane7 = held_same (shifts p.e 3 4 (omega arith) (omega arith) a.plane4) (λ i. column 7 (shuffle s) (o + i)) (λ i h. arrived o 3 i (omega arith));
    }

  -- planes drawn out, or a window: seven digits fewer are held
  pub slid-holds : (o v : ℕ) {p : Planes} → Holds o (7 + v) p s → Holds o v (slid p) (shuffle s)
  slid-holds o v a = moved_holds o (7 + v) v (λ x j. x / 2 ^ j) (omega arith) (λ x j b g h held. held-shr held j v (omega arith)) a

-- planes as wide as a number: all their digits stay held
module _ (x j : ℕ) (f : ℕ → ℕ) (some : 0 < j) (few : j < WORD) (around : (i : ℕ) → f (WORD + i) ≡ f i) (a : Held WORD x f) where
  raw : (i : ℕ) → i < WORD → digit (rolled x j) i ≡ differ (min (digit x (j + i)) (digit ONES (j + i))) (digit (x * 2 ^ (WORD - j)) i)
  unfolding rolled
  raw i h =
      digit-xor (bit_and (x / 2 ^ j) (ONES / 2 ^ j)) (x * 2 ^ (WORD - j) % 2 ^ WORD) i
      ∙ ap₂ differ (digit_and (x / 2 ^ j) (ONES / 2 ^ j) i ∙ ap₂ min (digit-shr x j i) (digit-shr ONES j i)) (digit-mod (x * 2 ^ (WORD - j)) WORD i h)

  rolled-held : Held WORD (rolled x j) (λ i. f (j + i))
  rolled-held = record {
    digits = λ i h. raw i h ∙ elim (dec_lt (j + i) WORD) [
      | yes p ↦
          let bit : digit x (j + i) ≤ 1 = omega (arith, digit-below x (j + i)) in
          ap₂ differ (ap (min (digit x (j + i))) (ones-digit (j + i) p) ∙ min-eq_left bit) (digit-shl-low x (WORD - j) i (omega (arith, p)))
          ∙ differ-none (digit x (j + i)) ∙ a.digits (j + i) p
      | no p ↦
          let r = i - (WORD - j) in
          let e : i ≡ WORD - j + r = omega (arith, p) in
          let g : WORD + r ≡ j + i = omega (arith, p) in
          ap₂ differ (ap (min (digit x (j + i))) (digit-high ONES WORD (j + i) (omega arith) (omega (arith, p))) ∙ min-zero (digit x (j + i)))
          (ap (digit (x * 2 ^ (WORD - j))) e ∙ digit-shl-high x (WORD - j) r ∙ a.digits r (omega (arith, p)))
          ∙ sym (ap f (sym g) ∙ around r)
    ];
  }

pub rolled-holds : (s : List ℕ) → length s ≡ WORD → {p : Planes} → Holds 0 WORD p s → Holds 0 WORD (rolled_all p) (shuffle s)
rolled-holds s long a =
    moved_holds s (omega arith) 0 WORD WORD rolled (omega arith)
    (λ x j b g h held. rolled-held x j (λ i. column b s (0 + i)) g (omega arith)
    (λ i. let e : 0 + (WORD + i) ≡ length s + (0 + i) = omega (arith, long) in ap (column b s) e ∙ column-around b s (0 + i)) held) a
