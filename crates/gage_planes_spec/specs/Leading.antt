-- The cell before each byte's first: the leader at every digit that begins a state, else the last cell of the byte before. Where the planes begin within
-- a state, the cell before their first byte is carried in. Assumes nothing.
use Rattle.std.specs.Prelude.{◌≡◌, refl, List, get_or}
use Rattle.std.proofs.Common.{sym, ◌∙◌, mod-eq_of_lt, mod-lt, zero-mul, one-mul, mul-one, mul-zero}
use Rattle.std.proofs.Math.Path.{ap, ap₂}
use Prim.Native.Nat.{ℕ, zero, suc, ◌+◌, ◌-◌, ◌*◌, ◌/◌, ◌%◌, ◌^◌, ◌≤◌, ◌<◌, min}
use Rattle.std.proofs.Math.Nat.{min-zero, min-eq_left, add-mod_left, add-mod-mod}
use Rattle.std.proofs.Math.Decide.{dec_lt}
use native.Mathlib.Omega.{arith}
use Rattle.std.specs.Int.Bits.{bit_and, bit_xor, differ}
use Rattle.std.proofs.Math.ListN.{length}
use Rattle.gage_shuffle.specs.Shuffling.{bit}
use Rattle.base_digits.specs.Digits.{digit, differ-none, digit-xor, digit_and, digit-mod, digit-zero, digit-shl-low, digit-shl-high, digit-high}
use Rattle.base_digits.specs.Held.{Held, WORD, ONES, ones-digit}
use Rattle.gage_planes_spec.specs.Planes.{begun, led}
use Rattle.gage_planes_spec.specs.Columns.{column, column-below}

-- 1 where a state begins
abbrev pub first : ℕ → ℕ
first zero = 1
first (suc k) = 0

-- l there, and else what stands in the byte before
abbrev pub ahead : ℕ → (ℕ → ℕ) → ℕ → ℕ
ahead l f zero = l
ahead l f (suc k) = f k

-- the same, but for the first digit of planes that begin within a state, where nothing comes in
abbrev come : ℕ → ℕ → (ℕ → ℕ) → ℕ → ℕ
come i l f zero = l
come zero l f (suc k) = 0
come (suc i) l f (suc k) = f k

pub digit-one : (i : ℕ) → digit 1 i ≡ first i
unfolding digit
digit-one zero = refl
digit-one (suc i) = digit-high 1 1 (suc i) (omega arith) (omega arith)

-- a state at least as wide as a number begins once
pub one-held : (n v : ℕ) → v ≤ n → Held v 1 (λ i. first ((0 + i) % n))
one-held n v l = record {
  digits = λ i h.
      let e : 0 + i ≡ i = omega arith in
      rw e (digit-one i ∙ ap first (sym (mod-eq_of_lt (let g : i < n = omega arith in g))));
}

-- the digits at which a state of n bytes begins: 2 ^ n + 1
module _ (n v : ℕ) (some : 0 < n) (fits : n + v ≤ WORD) (l : v ≤ n) where
  begins : (i : ℕ) → i < n + v → differ (digit (1 * 2 ^ n) i) (digit 1 i) ≡ first (i % n)
  begins i h = elim (dec_lt i n) [
    | yes p ↦ ap₂ differ (digit-shl-low 1 n i p) (digit-one i) ∙ rw (mod-eq_of_lt p)
    | no p ↦
        let r = i - n in
        let e : i ≡ n + r = omega (arith, p) in
        let m : r % n ≡ r = mod-eq_of_lt (omega (arith, p)) in
        rw e
        (ap₂ differ (digit-shl-high 1 n r ∙ digit-one r) (digit-high 1 1 (n + r) (omega arith) (omega arith)) ∙ differ-none (first r)
        ∙ ap first (sym (add-mod_left n r ∙ m)))
  ]

  pub starts-held : Held (n + v) (bit_xor (1 * 2 ^ n % 2 ^ WORD) 1) (λ i. first ((0 + i) % n))
  starts-held = record {
    digits = λ i h.
        let z : 0 + i ≡ i = omega arith in
        rw z
        (digit-xor (1 * 2 ^ n % 2 ^ WORD) 1 i ∙ ap (λ (d : ℕ). differ d (digit 1 i)) (digit-mod (1 * 2 ^ n) WORD i (omega arith)) ∙ begins i h);
  }

-- the remainder before one that is no beginning
remainder-before : (n r k : ℕ) → 0 < n → (1 + r) % n ≡ suc k → r % n ≡ k
remainder-before n r k some e =
    let q : (1 + r % n) % n ≡ suc k = add-mod-mod 1 r n ∙ e in
    let less : r % n < n = mod-lt r some in
    elim (dec_lt (1 + r % n) n) [
      | yes p ↦ omega (arith, sym (mod-eq_of_lt p) ∙ q)
      | no p ↦
          let whole : n + 0 ≡ 1 + r % n = omega (arith, p) in
          let none : (n + 0) % n ≡ 0 = add-mod_left n 0 ∙ mod-eq_of_lt some in
          absurd (omega (arith, sym none ∙ ap (λ (m : ℕ). m % n) whole ∙ q))
    ]

chosen : (l x i : ℕ) → l < 2 → digit (l * x) i ≡ l * digit x i
unfolding digit
chosen zero x i h = rw (zero-mul x, zero-mul (x / 2 ^ i % 2)) (digit-high 0 0 i (omega arith) (omega arith))
chosen (suc zero) x i h = rw (one-mul x, one-mul (x / 2 ^ i % 2))
chosen (suc (suc l)) x i h = absurd (omega arith)

module _ (o v x starts l b : ℕ) (s : List ℕ) (some : 0 < length s) (fits : v ≤ WORD) (bit-l : l < 2)
    (a : Held v x (λ i. column b s (o + i))) (beginning : Held v starts (λ i. first ((o + i) % length s))) where
  -- what an operation makes of one digit
  raw : (i : ℕ) → i < v
      → digit (led x starts l) i ≡ differ (min (digit (x * 2 ^ 1) i) (differ 1 (first ((o + i) % length s)))) (l * first ((o + i) % length s))
  unfolding begun
  raw i h =
      digit-xor (bit_and (x * 2 ^ 1 % 2 ^ WORD) (bit_xor ONES starts)) (l * starts) i
      ∙ ap₂ differ
      (digit_and (x * 2 ^ 1 % 2 ^ WORD) (bit_xor ONES starts) i
      ∙ ap₂ min (digit-mod (x * 2 ^ 1) WORD i (omega arith))
      (digit-xor ONES starts i ∙ ap₂ differ (ones-digit i (omega arith)) (beginning.digits i h)))
      (chosen l starts i bit-l ∙ ap (λ (d : ℕ). l * d) (beginning.digits i h))

  settled : (i : ℕ) → i < v → (m : ℕ) → (o + i) % length s ≡ m
      → differ (min (digit (x * 2 ^ 1) i) (differ 1 (first m))) (l * first m) ≡ come i l (λ k. bit b (get_or s k 0)) m
  unfolding column
  settled i h zero e = ap₂ differ (min-zero (digit (x * 2 ^ 1) i)) (mul-one l)
  settled zero h (suc k) e = ap₂ differ (ap (λ (d : ℕ). min d 1) (digit-shl-low x 1 0 (omega arith))) (mul-zero l)
  settled (suc r) h (suc k) e =
      let one : suc r ≡ 1 + r = omega arith in
      let on : o + suc r ≡ 1 + (o + r) = omega arith in
      let d : digit (x * 2 ^ 1) (1 + r) ≡ column b s (o + r) = digit-shl-high x 1 r ∙ a.digits r (omega arith) in
      let before : (o + r) % length s ≡ k = remainder-before (length s) (o + r) k some (ap (λ (m : ℕ). m % length s) (sym on) ∙ e) in
      ap₂ differ
      (ap (λ (m : ℕ). min (digit (x * 2 ^ 1) m) 1) one ∙ ap (λ (c : ℕ). min c 1) d
      ∙ min-eq_left (let g : column b s (o + r) ≤ 1 = omega (arith, column-below b s (o + r)) in g))
      (mul-zero l)
      ∙ differ-none (column b s (o + r)) ∙ ap (λ (m : ℕ). bit b (get_or s m 0)) before

  come-held : (i : ℕ) → i < v → digit (led x starts l) i ≡ come i l (λ k. bit b (get_or s k 0)) ((o + i) % length s)
  come-held i h = raw i h ∙ settled i h ((o + i) % length s) refl

  -- planes that begin where a state does
  pub led-held : o % length s ≡ 0 → Held v (led x starts l) (λ i. ahead l (λ k. bit b (get_or s k 0)) ((o + i) % length s))
  led-held begin = record { digits = λ i h. come-held i h ∙ same i ((o + i) % length s) refl }
    where
      same : (i m : ℕ) → (o + i) % length s ≡ m → come i l (λ k. bit b (get_or s k 0)) m ≡ ahead l (λ k. bit b (get_or s k 0)) m
      same i zero e = refl
      same zero (suc m) e =
          let z : o + 0 ≡ o = omega arith in
          absurd (omega (arith, sym (ap (λ (k : ℕ). k % length s) z ∙ begin) ∙ e))
      same (suc i) (suc m) e = refl

  -- planes that begin within a state, at byte k + 1 of it: c is carried in
  pub carried-held : (c k : ℕ) → c < 2 → o % length s ≡ suc k → c ≡ bit b (get_or s k 0)
      → Held v (bit_xor (led x starts l) c) (λ i. ahead l (λ k. bit b (get_or s k 0)) ((o + i) % length s))
  carried-held c k small within is = record {
    digits = λ i h.
        digit-xor (led x starts l) c i ∙ ap (λ (d : ℕ). differ d (digit c i)) (come-held i h) ∙ same i ((o + i) % length s) refl;
  }
    where
      none : (i : ℕ) → digit c (suc i) ≡ 0
      none i = digit-high c 1 (suc i) (omega arith) (omega arith)

      same : (i m : ℕ) → (o + i) % length s ≡ m
          → differ (come i l (λ k. bit b (get_or s k 0)) m) (digit c i) ≡ ahead l (λ k. bit b (get_or s k 0)) m
      same zero zero e =
          let z : o + 0 ≡ o = omega arith in
          absurd (omega (arith, sym within ∙ ap (λ (k : ℕ). k % length s) (sym z) ∙ e))
      same zero (suc m) e =
          let z : o + 0 ≡ o = omega arith in
          let g : k ≡ m = omega (arith, sym within ∙ ap (λ (k : ℕ). k % length s) (sym z) ∙ e) in
          digit-zero c small ∙ is ∙ ap (λ (j : ℕ). bit b (get_or s j 0)) g
      same (suc i) zero e = ap (differ l) (none i) ∙ differ-none l
      same (suc i) (suc m) e = ap (differ (bit b (get_or s m 0))) (none i) ∙ differ-none (bit b (get_or s m 0))
