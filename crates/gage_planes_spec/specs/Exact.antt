-- Planes cut to the digits of the state that they hold are the planes of that state, and of no other. Assumes nothing.
use Rattle.std.specs.Prelude.{◌≡◌, refl, ℕ, ◌+◌, ◌-◌, ◌^◌, ◌≤◌, ◌<◌, length, get_or}
use Rattle.std.proofs.Common.{sym, ◌∙◌, mod-eq_of_lt, arith, lt-ltb}
use Rattle.std.proofs.Math.Path.{ap}
use mathlib.Core.List.{List, []}
use Rattle.std.specs.Int.Bits.{bit_and, mask_lt}
use Rattle.std.proofs.lemmas.Nat.{and_mask}
use Rattle.std.proofs.Math.ListN.{take, drop, drop_of_length-le}
use Rattle.std.proofs.Math.Seq.{take_all}
use Rattle.base_digits.specs.Digits.{digit, digit-mod, digits_same}
use Rattle.base_digits.specs.Held.{Held}
use Rattle.base_digits.specs.Joined.{grown}
use Rattle.gage_planes_spec.specs.declared.Planes.{Planes}
use Rattle.gage_planes_spec.specs.declared.State.{State}
use Rattle.gage_planes_spec.specs.declared.Windows.{Windows}
use Rattle.gage_planes_spec.specs.Planes.{cut}
use Rattle.gage_planes_spec.specs.Columns.{column, Holds}
use Rattle.gage_planes_spec.specs.Told.{LOW, ROOM, digit_at, plane, planes_of, rest_of, state_of}
use Rattle.gage_planes_spec.specs.Bytes.{Woven, digit-plane, plane-below}

-- planes and states are the same where their numbers are
pub same-planes : {a b c d e f g h a' b' c' d' e' f' g' h' : ℕ} → a ≡ a' → b ≡ b' → c ≡ c' → d ≡ d' → e ≡ e' → f ≡ f' → g ≡ g' → h ≡ h'
    → ◌≡◌ {A = Planes} (record { a = a; b = b; c = c; d = d; e = e; f = f; g = g; h = h })
    (record { a = a'; b = b'; c = c'; d = d'; e = e'; f = f'; g = g'; h = h' })
same-planes ea eb ec ed ee ef eg eh = cc

pub same-states : {p q : Planes} {x y : ℕ} → p ≡ q → x ≡ y → ◌≡◌ {A = State} (record { low = p; rest = x }) (record { low = q; rest = y })
same-states e f = cc

pub same-windows : {p q p' q' : Planes} → p ≡ p' → q ≡ q' → ◌≡◌ {A = Windows} (record { first = p; second = q }) (record { first = p'; second = q' })
same-windows e f = cc

-- a column below the state's end is a digit of that byte
pub column-digit : (b : ℕ) (s : List ℕ) (i : ℕ) → i < length s → column b s i ≡ digit (get_or s i 0) (7 - b)
unfolding column digit
column-digit b s i h = rw (mod-eq_of_lt h)

module _ (n : ℕ) (s : List ℕ) (long : length s ≡ n) where
  plane-exact : (b x : ℕ) → Held n x (λ i. column b s (0 + i)) → bit_and x (2 ^ n - 1) ≡ plane (7 - b) s
  plane-exact b x a =
      digits_same n (bit_and x (2 ^ n - 1)) (plane (7 - b) s) (mask_lt x n) (rw long at (plane-below (7 - b) s))
      (λ i h.
      let z : 0 + i ≡ i = omega arith in
      ap (λ (y : ℕ). digit y i) (and_mask x n) ∙ digit-mod x n i h ∙ a.digits i h ∙ ap (column b s) z ∙ column-digit b s i (omega arith) ∙ sym
      (digit-plane (7 - b) s i))

  pub cut-exact : {p : Planes} → Holds 0 n p s → cut p (2 ^ n - 1) ≡ planes_of s
  cut-exact {p} a =
      same-planes (plane-exact 0 p.a a.plane0) (plane-exact 1 p.b a.plane1) (plane-exact 2 p.c a.plane2) (plane-exact 3 p.d a.plane3)
      (plane-exact 4 p.e a.plane4) (plane-exact 5 p.f a.plane5) (plane-exact 6 p.g a.plane6) (plane-exact 7 p.h a.plane7)

  -- a state that one number a plane has room for
  pub state-exact : {p : Planes} → n ≤ LOW → Holds 0 n p s → ◌≡◌ {A = State} (record { low = cut p (2 ^ n - 1); rest = 0 }) (state_of s)
  unfolding state_of rest_of plane grown
  state-exact {p} fits a =
      let first : take LOW s ≡ s = take_all LOW s (omega arith) in
      let none : drop LOW s ≡ [] = drop_of_length-le s {i = LOW} (omega arith) in
      same-states (cut-exact a ∙ ap planes_of (sym first)) (ap (λ (r : List ℕ). rest_of (take (ROOM - LOW) r)) (sym none))

  -- the planes of a state in planes hold it
  low_digit : (t : State) → Woven n t s → (b x i : ℕ) → i < n → i < LOW → digit_at t i (7 - b) ≡ digit x i → digit x i ≡ column b s (0 + i)
  low_digit t a b x i h g e =
      let z : i ≡ 0 + i = omega arith in
      sym e ∙ a.each i (7 - b) h (omega arith) ∙ sym (column-digit b s i (omega arith)) ∙ ap (column b s) z

  pub woven-holds : (v : ℕ) (t : State) → v ≤ n → v ≤ LOW → Woven n t s → Holds 0 v t.low s
  unfolding digit_at
  woven-holds v t few fits a = record {
    plane0 = record { digits = λ i h. low_digit t a 0 t.low.a i (omega arith) (omega arith) (rw (lt-ltb i LOW (omega arith)) refl) };
    plane1 = record { digits = λ i h. low_digit t a 1 t.low.b i (omega arith) (omega arith) (rw (lt-ltb i LOW (omega arith)) refl) };
    plane2 = record { digits = λ i h. low_digit t a 2 t.low.c i (omega arith) (omega arith) (rw (lt-ltb i LOW (omega arith)) refl) };
    plane3 = record { digits = λ i h. low_digit t a 3 t.low.d i (omega arith) (omega arith) (rw (lt-ltb i LOW (omega arith)) refl) };
    plane4 = record { digits = λ i h. low_digit t a 4 t.low.e i (omega arith) (omega arith) (rw (lt-ltb i LOW (omega arith)) refl) };
    plane5 = record { digits = λ i h. low_digit t a 5 t.low.f i (omega arith) (omega arith) (rw (lt-ltb i LOW (omega arith)) refl) };
    plane6 = record { digits = λ i h. low_digit t a 6 t.low.g i (omega arith) (omega arith) (rw (lt-ltb i LOW (omega arith)) refl) };
    plane7 = record { digits = λ i h. low_digit t a 7 t.low.h i (omega arith) (omega arith) (rw (lt-ltb i LOW (omega arith)) refl) };
  }
