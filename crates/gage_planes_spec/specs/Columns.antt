-- Planes that hold a state: digit i of plane b is bit b of byte o + i, around, o being the byte at which the planes begin. Drawing planes out anew.
-- Assumes nothing.
use Rattle.std.specs.Prelude.{◌≡◌, List, ℕ, ◌+◌, ◌-◌, ◌*◌, ◌%◌, ◌^◌, ◌≤◌, ◌<◌, length, get_or}
use Rattle.std.proofs.Math.Path.{sym, ap, ap₂}
use Rattle.std.proofs.Common.{◌∙◌, mod-lt, arith, pow_pos}
use Rattle.std.proofs.Math.Nat.{add-mod_left}
use Rattle.std.proofs.Math.Decide.{dec_lt}
use Rattle.std.specs.Int.Bits.{bit_and, differ}
use Rattle.std.proofs.lemmas.Nat.{and_mask}
use Rattle.gage_shuffle.specs.Shuffling.{bit}
use Rattle.base_digits.specs.Digits.{digit, differ-none, digit-xor, digit-mod, digit-high, digit-shl-low, digit-shl-high}
use Rattle.base_digits.specs.Held.{Held, WORD, held-fewer}
use Rattle.gage_planes_spec.specs.declared.Planes.{Planes}
use Rattle.gage_planes_spec.specs.Planes.{beside, drawn_out, doubled}

-- bit b of byte i, byte 0 following the last
unfoldable pub column : ℕ → List ℕ → ℕ → ℕ
column b s i = bit b (get_or s (i % length s) 0)

-- v digits of each plane, from byte o on
pub record Holds (o v : ℕ) (p : Planes) (s : List ℕ) : Type 0 where
  pub plane0 : Held v p.a (λ i. column 0 s (o + i))
  pub plane1 : Held v p.b (λ i. column 1 s (o + i))
  pub plane2 : Held v p.c (λ i. column 2 s (o + i))
  pub plane3 : Held v p.d (λ i. column 3 s (o + i))
  pub plane4 : Held v p.e (λ i. column 4 s (o + i))
  pub plane5 : Held v p.f (λ i. column 5 s (o + i))
  pub plane6 : Held v p.g (λ i. column 6 s (o + i))
  pub plane7 : Held v p.h (λ i. column 7 s (o + i))

pub holds-fewer : {o v : ℕ} {p : Planes} {s : List ℕ} (w : ℕ) → w ≤ v → Holds o v p s → Holds o w p s
holds-fewer w l a = record {
  plane0 = held-fewer a.plane0 w l;
  plane1 = held-fewer a.plane1 w l;
  plane2 = held-fewer a.plane2 w l;
  plane3 = held-fewer a.plane3 w l;
  plane4 = held-fewer a.plane4 w l;
  plane5 = held-fewer a.plane5 w l;
  plane6 = held-fewer a.plane6 w l;
  plane7 = held-fewer a.plane7 w l;
}

pub column-around : (b : ℕ) (s : List ℕ) (i : ℕ) → column b s (length s + i) ≡ column b s i
unfolding column
column-around b s i = rw (add-mod_left (length s) i)

pub column-below : (b : ℕ) (s : List ℕ) (i : ℕ) → column b s i < 2
unfolding column
column-below b s i = omega arith

-- n digits of x, and behind them v of y
module _ (n v x y : ℕ) (f g : ℕ → ℕ) (l : v ≤ n) (fits : n + v ≤ WORD) (next : (i : ℕ) → f (n + i) ≡ g i) (a : Held n x f) (b : Held n y g) where
  masked : (z : ℕ) (h : ℕ → ℕ) → Held n z h → (i : ℕ) → i < n → digit (bit_and z (2 ^ n - 1)) i ≡ h i
  masked z h c i w = ap (λ (k : ℕ). digit k i) (and_mask z n) ∙ digit-mod z n i w ∙ c.digits i w

  above : (i : ℕ) → digit (bit_and x (2 ^ n - 1)) (n + i) ≡ 0
  above i = ap (λ (k : ℕ). digit k (n + i)) (and_mask x n) ∙ digit-high (x % 2 ^ n) n (n + i) (mod-lt x (pow_pos n)) (omega arith)

  pub beside-held : Held (n + v) (beside x y (2 ^ n - 1) n) f
  unfolding beside
  beside-held = record {
    digits = λ i h.
        let u = bit_and x (2 ^ n - 1) in
        let w = bit_and y (2 ^ n - 1) in
        digit-xor u (w * 2 ^ n % 2 ^ WORD) i
        ∙ ap (differ (digit u i)) (digit-mod (w * 2 ^ n) WORD i (omega arith))
        ∙ elim (dec_lt i n) [
          | yes p ↦ ap₂ differ (masked x f a i p) (digit-shl-low w n i p) ∙ differ-none (f i)
          | no p ↦
              let r = i - n in
              let e : i ≡ n + r = omega (arith, p) in
              rw e (ap₂ differ (above r) (digit-shl-high w n r ∙ masked y g b r (omega (arith, p))) ∙ sym (next r))
        ];
  }

-- the planes that begin at byte o with those that begin n bytes further on behind them
pub drawn-out-holds : (n v o q : ℕ) {p r : Planes} {s : List ℕ} → v ≤ n → n + v ≤ WORD
    → ((b i : ℕ) → column b s (o + (n + i)) ≡ column b s (q + i))
    → Holds o n p s → Holds q n r s → Holds o (n + v) (drawn_out p r (2 ^ n - 1) n) s
drawn-out-holds n v o q {p} {r} {s} l fits next a b = record {
  plane0 = beside-held n v p.a r.a (λ i. column 0 s (o + i)) (λ i. column 0 s (q + i)) l fits (next 0) a.plane0 b.plane0;
  plane1 = beside-held n v p.b r.b (λ i. column 1 s (o + i)) (λ i. column 1 s (q + i)) l fits (next 1) a.plane1 b.plane1;
  plane2 = beside-held n v p.c r.c (λ i. column 2 s (o + i)) (λ i. column 2 s (q + i)) l fits (next 2) a.plane2 b.plane2;
  plane3 = beside-held n v p.d r.d (λ i. column 3 s (o + i)) (λ i. column 3 s (q + i)) l fits (next 3) a.plane3 b.plane3;
  plane4 = beside-held n v p.e r.e (λ i. column 4 s (o + i)) (λ i. column 4 s (q + i)) l fits (next 4) a.plane4 b.plane4;
  plane5 = beside-held n v p.f r.f (λ i. column 5 s (o + i)) (λ i. column 5 s (q + i)) l fits (next 5) a.plane5 b.plane5;
  plane6 = beside-held n v p.g r.g (λ i. column 6 s (o + i)) (λ i. column 6 s (q + i)) l fits (next 6) a.plane6 b.plane6;
  plane7 = beside-held n v p.h r.h (λ i. column 7 s (o + i)) (λ i. column 7 s (q + i)) l fits (next 7) a.plane7 b.plane7;
}

-- planes drawn out around their end
pub doubled-holds : (v : ℕ) {p : Planes} {s : List ℕ} → v ≤ length s → length s + v ≤ WORD → Holds 0 (length s) p s
    → Holds 0 (length s + v) (doubled p (2 ^ length s - 1) (length s)) s
doubled-holds v {p} {s} l fits a =
    drawn-out-holds (length s) v 0 0 l fits
    (λ b i. let e : 0 + (length s + i) ≡ length s + (0 + i) = omega arith in ap (column b s) e ∙ column-around b s (0 + i)) a a
