-- Two windows: a state wider than a number, of h + h bytes, held by the planes that begin at its first byte and by those that begin at byte h. A turn, drawing
-- out, the windows of a state in planes, and the state in planes that windows hold. Assumes nothing.
use Rattle.std.specs.Prelude.{◌≡◌, List, take, drop}
use Rattle.std.proofs.Math.Path.{refl, sym, ap, ap₂}
use Rattle.std.proofs.Common.{◌∙◌, subst, mod-lt, div-one, lt_of_lt_of_le, pow_mono, pow_pos, shr_lt, length-take-le, take_all, get_or-take, lt-ltb, le-ltb}
use Prim.Native.Nat.{ℕ, zero, suc, ◌+◌, ◌-◌, ◌*◌, ◌/◌, ◌%◌, ◌^◌, ◌≤◌, ◌<◌, min}
use Rattle.std.proofs.Math.Nat.{mod-eq_of_lt, add-mod_left, min-zero, min-eq_left}
use Rattle.std.proofs.Math.Decide.{dec_lt}
use native.Mathlib.Omega.{arith}
use Rattle.std.specs.Int.Bits.{bit_and, differ, mask_lt, xor_lt}
use Rattle.std.proofs.lemmas.Nat.{and_mask}
use Rattle.std.proofs.Math.ListN.{length, get_or, length-drop}
use Rattle.std.proofs.Math.Seq.{get_or-drop}
use Rattle.base_lists.specs.Below.{Below}
use Rattle.gage_cells.specs.Cells.{table, substitute}
use Rattle.gage_shuffle.specs.Shuffling.{bit, shuffle}
use Rattle.gage_shuffle.specs.States.{length-shuffle, shuffle-below}
use Rattle.base_digits.specs.Digits.{digit, differ-none, digit-below, digit-xor, digit_and, digit-shr}
use Rattle.base_digits.specs.Digits.{digit-mod, digit-high, digit-shl-low, digit-shl-high, digits_same}
use Rattle.base_digits.specs.Held.{Held, WORD, ONES, ones-digit, held_same}
use Rattle.gage_planes_spec.specs.declared.State.{State}
use Rattle.gage_planes_spec.specs.declared.Windows.{Windows}
use Rattle.gage_planes_spec.specs.Planes.{slid, beside, drawn_out, led_from}
use Rattle.gage_planes_spec.specs.Planes.{substituted_both, turned_both, drawn_both, behind, second_of, rejoined}
use Rattle.gage_planes_spec.specs.Columns.{column, column-around, Holds, holds-fewer, drawn-out-holds}
use Rattle.gage_planes_spec.specs.Leading.{first, ahead, digit-one, one-held, carried-held}
use Rattle.gage_planes_spec.proofs.Moving.{slid-holds}
use Rattle.gage_planes_spec.specs.Turning.{prior}
use Rattle.gage_planes_spec.proofs.Turning.{ahead_upper, ahead_lower, products-hold, substituted-holds}
use Rattle.gage_planes_spec.specs.Told.{LOW, ROOM, worth, digit_at, plane, rest_of, state_of}
use Rattle.gage_planes_spec.specs.Bytes.{Woven, digit-plane, plane-below}
use Rattle.gage_planes_spec.specs.Exact.{same-planes, same-states, column-digit}
use Rattle.gage_planes_spec.specs.Windows.{HoldBoth}

pub both_fewer : {h v : ℕ} {w : Windows} {s : List ℕ} (u : ℕ) → u ≤ v → HoldBoth h v w s → HoldBoth h u w s
both_fewer u l a = record { front = holds-fewer u l a.front; back = holds-fewer u l a.back }

module _ (h : ℕ) (s : List ℕ) (long : length s ≡ h + h) (some : 0 < h) (wide : WORD ≤ h + h) where
  middle : (i : ℕ) → i < WORD → digit (1 * 2 ^ h % 2 ^ 64) i ≡ first ((h + i) % length s)
  middle i l = digit-mod (1 * 2 ^ h) WORD i l ∙ elim (dec_lt i h) [
    | yes p ↦
        let m : (h + i) % length s ≡ h + i = mod-eq_of_lt (omega (arith, p)) in
        digit-shl-low 1 h i p ∙ sym (ap first m ∙ later (h + i) (omega arith))
    | no p ↦
        let r = i - h in
        let e : i ≡ h + r = omega (arith, p) in
        let g : h + (h + r) ≡ length s + r = omega arith in
        let m : (h + (h + r)) % length s ≡ r = ap (λ (k : ℕ). k % length s) g ∙ add-mod_left (length s) r ∙ mod-eq_of_lt (omega (arith, p)) in
        rw e (digit-shl-high 1 h r ∙ digit-one r ∙ sym (ap first m))
  ]
    where
      later : (k : ℕ) → 0 < k → first k ≡ 0
      later zero l = absurd (omega arith)
      later (suc k) l = refl

  module _ (v : ℕ) (fits : v ≤ WORD) (enough : h ≤ v) where
    -- the bit that is carried in
    carried : (b x : ℕ) → Held v x (λ i. column b s (0 + i)) → x / 2 ^ (h - 1) % 2 ≡ bit b (get_or s (h - 1) 0)
    unfolding digit column
    carried b x a =
        let z : 0 + (h - 1) ≡ h - 1 = omega arith in
        a.digits (h - 1) (omega arith) ∙ rw (z, mod-eq_of_lt (let g : h - 1 < length s = omega arith in g))

    second-led : (l b x y : ℕ) → l < 2 → Held v x (λ i. column b s (0 + i)) → Held v y (λ i. column b s (h + i))
        → Held v (led_from y x h l) (λ i. ahead l (λ k. bit b (get_or s k 0)) ((h + i) % length s))
    second-led l b x y small a c =
        let e : h ≡ suc (h - 1) = omega arith in
        carried-held h v y (1 * 2 ^ h % 2 ^ 64) l b s (omega arith) fits small c (record { digits = λ i g. middle i (omega arith) })
        (x / 2 ^ (h - 1) % 2) (h - 1) (omega arith) (mod-eq_of_lt (let g : h < length s = omega arith in g) ∙ e) (carried b x a)

    pub both-substituted : (l : ℕ) (w : Windows) → l < 4 → Below 256 s → HoldBoth h v w s → HoldBoth h v (substituted_both w h l) (substitute table l s)
    unfolding prior
    both-substituted l w cell small a = record {
      front = substituted-holds v 1 l w.first s (omega arith) fits cell small (one-held (length s) v (omega arith)) a.front;
      back =
          products-hold h v l (led_from w.second.g w.first.g h (l / 2 % 2)) (led_from w.second.h w.first.h h (l % 2)) w.second s (omega arith)
          fits cell small
          (held_same (second-led (l / 2 % 2) 6 w.first.g w.second.g (omega arith) a.front.plane6 a.back.plane6) (λ i. prior l s (h + i) / 2)
          (λ i g. ahead_upper l (λ k. get_or s k 0) ((h + i) % length s) cell))
          (held_same (second-led (l % 2) 7 w.first.h w.second.h (omega arith) a.front.plane7 a.back.plane7) (λ i. prior l s (h + i) % 2)
          (λ i g. ahead_lower l (λ k. get_or s k 0) ((h + i) % length s) cell))
          a.back;
    }

  -- the windows drawn out
  pub both-drawn : (v : ℕ) (w : Windows) → v ≤ h → h + v ≤ WORD → HoldBoth h h w s → HoldBoth h (h + v) (drawn_both w (2 ^ h - 1) h) s
  both-drawn v w few fits a = record {
    front = drawn-out-holds h v 0 h few fits (λ b i. ap (column b s) (let e : 0 + (h + i) ≡ h + i = omega arith in e)) a.front a.back;
    back =
        drawn-out-holds h v h 0 few fits
        (λ b i. let e : h + (h + i) ≡ length s + (0 + i) = omega arith in ap (column b s) e ∙ column-around b s (0 + i)) a.back a.front;
  }

-- one turn: seven digits fewer
pub both-turned : (h v l : ℕ) (w : Windows) (s : List ℕ) → length s ≡ h + h → 0 < h → WORD ≤ h + h → 7 + v ≤ WORD → h ≤ v → l < 4
    → HoldBoth h (7 + v) w s → HoldBoth h v (turned_both w h l) (substitute table l (shuffle s))
both-turned h v l w s long some wide fits enough cell a =
    both-substituted h (shuffle s) (length-shuffle s ∙ long) some wide v (omega arith) enough l (record { first = slid w.first; second = slid w.second })
    cell (shuffle-below s)
    (record { front = slid-holds s (omega arith) 0 v a.front; back = slid-holds s (omega arith) h v a.back })

-- the windows of a state in planes
module _ (h : ℕ) (s : List ℕ) (t : State) (long : length s ≡ h + h) (wide : WORD ≤ h + h) (room : h + h ≤ ROOM) (a : Woven (h + h) t s) where
  -- plane 7 - j from byte h on, x being the plane and y the rest from its own byte on
  behind-held : (j x y : ℕ) → j < 8 → ((i : ℕ) → i < LOW → digit_at t i j ≡ digit x i) → ((i : ℕ) → i < 8 → digit_at t (LOW + i) j ≡ digit y i)
      → Held h (behind x y h) (λ i. column (7 - j) s (h + i))
  unfolding behind
  behind-held j x y few low high = record {
    digits = λ i g.
        let e : 7 - (7 - j) ≡ j = omega arith in
        let there : digit (get_or s (h + i) 0) j ≡ column (7 - j) s (h + i) = sym (column-digit (7 - j) s (h + i) (omega arith) ∙ ap (digit (get_or s (h + i) 0))
        e) in
        digit-xor (bit_and (x / 2 ^ h) (ONES / 2 ^ h)) (y % 256 * 2 ^ (64 - h) % 2 ^ 64) i
        ∙ ap₂ differ (digit_and (x / 2 ^ h) (ONES / 2 ^ h) i ∙ ap₂ min (digit-shr x h i) (digit-shr ONES h i))
        (digit-mod (y % 256 * 2 ^ (64 - h)) WORD i (omega arith))
        ∙ elim (dec_lt (h + i) WORD) [
          | yes p ↦
              let bit : digit x (h + i) ≤ 1 = omega (arith, digit-below x (h + i)) in
              ap₂ differ (ap (min (digit x (h + i))) (ones-digit (h + i) p) ∙ min-eq_left bit) (digit-shl-low (y % 256) (64 - h) i (omega (arith, p)))
              ∙ differ-none (digit x (h + i)) ∙ sym (low (h + i) p) ∙ a.each (h + i) j (omega arith) few ∙ there
          | no p ↦
              let r = i - (64 - h) in
              let f : i ≡ 64 - h + r = omega (arith, p) in
              let k : LOW + r ≡ h + i = omega (arith, p) in
              ap₂ differ (ap (min (digit x (h + i))) (digit-high ONES WORD (h + i) (omega arith) (omega (arith, p))) ∙ min-zero (digit x (h + i)))
              (ap (digit (y % 256 * 2 ^ (64 - h))) f ∙ digit-shl-high (y % 256) (64 - h) r ∙ digit-mod y 8 r (omega (arith, p)))
              ∙ sym (high r (omega (arith, p))) ∙ ap (λ (m : ℕ). digit_at t m j) k ∙ a.each (h + i) j (omega arith) few ∙ there
        ];
  }

  -- a digit of a plane, and one of the rest
  low-at : (j i : ℕ) → i < LOW → digit_at t i j ≡ digit (get_or (worth t.low) j 0) i
  unfolding digit_at
  low-at j i g = rw (lt-ltb i LOW g) refl

  high-at : (j i : ℕ) → i < 8 → digit_at t (LOW + i) j ≡ digit (t.rest / 2 ^ (8 * j)) i
  unfolding digit_at
  high-at j i g =
      let e : LOW + i - LOW ≡ i = omega arith in
      rw (le-ltb (LOW + i) LOW (omega arith), e) (sym (digit-shr t.rest (8 * j) i))

  pub second_holds : Holds h h (second_of t h) s
  second_holds = record {
    plane0 = behind-held 7 t.low.a (t.rest / 2 ^ 56) (omega arith) (low-at 7) (high-at 7);
    plane1 = behind-held 6 t.low.b (t.rest / 2 ^ 48) (omega arith) (low-at 6) (high-at 6);
    plane2 = behind-held 5 t.low.c (t.rest / 2 ^ 40) (omega arith) (low-at 5) (high-at 5);
    plane3 = behind-held 4 t.low.d (t.rest / 2 ^ 32) (omega arith) (low-at 4) (high-at 4);
    plane4 = behind-held 3 t.low.e (t.rest / 2 ^ 24) (omega arith) (low-at 3) (high-at 3);
    plane5 = behind-held 2 t.low.f (t.rest / 2 ^ 16) (omega arith) (low-at 2) (high-at 2);
    plane6 = behind-held 1 t.low.g (t.rest / 2 ^ 8) (omega arith) (low-at 1) (high-at 1);
    plane7 = rw (div-one t.rest) at (behind-held 0 t.low.h (t.rest / 2 ^ 0) (omega arith) (low-at 0) (high-at 0));
  }

-- the state in planes that two windows hold
module _ (h : ℕ) (s : List ℕ) (w : Windows) (long : length s ≡ h + h) (wide : WORD ≤ h + h) (room : h + h ≤ ROOM) (narrow : h < WORD)
    (a : HoldBoth h h w s) where
  low_held : Holds 0 WORD (drawn_out w.first w.second (2 ^ h - 1) h) s
  low_held =
      let e : h + (WORD - h) ≡ WORD = omega arith in
      rw e at (drawn-out-holds h (WORD - h) 0 h (omega arith) (omega arith) (λ b i. ap (column b s) (let e : 0 + (h + i) ≡ h + i = omega arith in e))
      a.front a.back)

  beside-below : (x y : ℕ) → beside x y (2 ^ h - 1) h < 2 ^ WORD
  unfolding beside
  beside-below x y =
      xor_lt WORD (bit_and x (2 ^ h - 1)) (bit_and y (2 ^ h - 1) * 2 ^ h % 2 ^ 64) (lt_of_lt_of_le (mask_lt x h) (pow_mono (let l : h ≤ WORD = omega arith in l)))
      (mod-lt (bit_and y (2 ^ h - 1) * 2 ^ h) (pow_pos 64))

  front_long : length (take LOW s) ≡ WORD
  front_long = length-take-le LOW s (omega arith)

  low-plane : (b x y : ℕ) → Held WORD (beside x y (2 ^ h - 1) h) (λ i. column b s (0 + i)) → beside x y (2 ^ h - 1) h ≡ plane (7 - b) (take LOW s)
  low-plane b x y c =
      digits_same WORD (beside x y (2 ^ h - 1) h) (plane (7 - b) (take LOW s)) (beside-below x y) (rw front_long at (plane-below (7 - b) (take LOW s)))
      (λ i g.
      let z : 0 + i ≡ i = omega arith in
      c.digits i g ∙ ap (column b s) z ∙ column-digit b s i (omega arith)
      ∙ sym (digit-plane (7 - b) (take LOW s) i ∙ ap (λ (d : ℕ). digit d (7 - b)) (get_or-take LOW s i 0 g)))

  tail : List ℕ
  tail = take (ROOM - LOW) (drop LOW s)

  tail-long : length tail ≡ h + h - LOW
  unfolding tail
  tail-long = ap length (take_all (ROOM - LOW) (drop LOW s) (rw length-drop (omega arith))) ∙ length-drop LOW s ∙ ap (λ (k : ℕ). k - LOW) long

  tail-plane : (b x : ℕ) → Held h x (λ i. column b s (h + i)) → bit_and x (2 ^ h - 1) / 2 ^ (64 - h) ≡ plane (7 - b) tail
  unfolding tail
  tail-plane b x c =
      let e : h ≡ h + h - LOW + (64 - h) = omega arith in
      digits_same (h + h - LOW) (bit_and x (2 ^ h - 1) / 2 ^ (64 - h)) (plane (7 - b) tail)
      (shr_lt (h + h - LOW) (64 - h) (subst (λ (k : ℕ). bit_and x (2 ^ h - 1) < 2 ^ k) e (mask_lt x h))) (rw tail-long at (plane-below (7 - b) tail))
      (λ i g.
      let k : h + (64 - h + i) ≡ LOW + i = omega arith in
      digit-shr (bit_and x (2 ^ h - 1)) (64 - h) i ∙ ap (λ (y : ℕ). digit y (64 - h + i)) (and_mask x h) ∙ digit-mod x h (64 - h + i) (omega arith)
      ∙ c.digits (64 - h + i) (omega arith) ∙ ap (column b s) k ∙ column-digit b s (LOW + i) (omega arith)
      ∙ sym (digit-plane (7 - b) tail i ∙ ap (λ (d : ℕ). digit d (7 - b)) (get_or-take (ROOM - LOW) (drop LOW s) i 0 (omega arith) ∙ get_or-drop LOW s i 0)))

  pub rejoined-exact : rejoined w (2 ^ h - 1) h ≡ state_of s
  unfolding state_of rest_of tail
  rejoined-exact =
      let l = low_held in
      same-states
      (same-planes (low-plane 0 w.first.a w.second.a l.plane0) (low-plane 1 w.first.b w.second.b l.plane1)
      (low-plane 2 w.first.c w.second.c l.plane2) (low-plane 3 w.first.d w.second.d l.plane3)
      (low-plane 4 w.first.e w.second.e l.plane4) (low-plane 5 w.first.f w.second.f l.plane5)
      (low-plane 6 w.first.g w.second.g l.plane6) (low-plane 7 w.first.h w.second.h l.plane7))
      (rw (
        tail-plane 0 w.second.a a.back.plane0,
        tail-plane 1 w.second.b a.back.plane1,
        tail-plane 2 w.second.c a.back.plane2,
        tail-plane 3 w.second.d a.back.plane3,
        tail-plane 4 w.second.e a.back.plane4,
        tail-plane 5 w.second.f a.back.plane5,
        tail-plane 6 w.second.g a.back.plane6,
        tail-plane 7 w.second.h a.back.plane7,
      )
      refl)
