-- A state told is the state that the planes were made of: laws of `told`, `state_of` and `mixed`, which callers of the calls over planes cite. Assumes nothing.
use Rattle.std.specs.Prelude.{◌≡◌, refl, List, [], ◌∷◌, ℕ, zero, suc, ◌+◌, ◌-◌, ◌*◌, ◌/◌, ◌%◌, ◌^◌, ◌≤◌, ◌<◌, length, get_or, take, drop}
use Rattle.std.proofs.Common.{sym, ap, ◌∙◌, zero-add, arith, pow-add, ext_get_or, length-take-le, get_or-take, get_or-drop, lt-ltb, le-ltb}
use Rattle.std.proofs.Math.Decide.{dec_lt}
use Rattle.std.specs.Int.Bits.{bit_xor, differ}
use Rattle.base_lists.specs.Below.{Below, below_at}
use Rattle.gage_shuffle.specs.Shuffling.{units}
use Rattle.gage_shuffle.specs.Bits.{eight, weighed-by, unit-back, unit-below, unit-whole}
use Rattle.gage_shuffle.specs.States.{length-tabled, tabled-at}
use Rattle.base_digits.specs.Digits.{digit, digit-below, digit-xor, digit-shr, digit-high}
use Rattle.base_digits.proofs.Joined.{digit-joined}
use Rattle.gage_planes_spec.specs.declared.Planes.{Planes}
use Rattle.gage_planes_spec.specs.declared.State.{State}
use Rattle.gage_planes_spec.specs.Told.{LOW, ROOM, worth, digit_at, byte_at, told, plane, planes_of, rest_of, state_of, xor_planes, mixed}

-- the first n bytes of s are those of a state in planes
pub record Woven (n : ℕ) (t : State) (s : List ℕ) : Type 0 where
  pub each : (i j : ℕ) → i < n → j < 8 → digit_at t i j ≡ digit (get_or s i 0) j

pub length-told : (n : ℕ) (t : State) → length (told n t) ≡ n
unfolding told
length-told n t = length-tabled (byte_at t) 0 n

told_at : (n : ℕ) (t : State) (i : ℕ) → i < n → get_or (told n t) i 0 ≡ byte_at t i
unfolding told
told_at n t i h = tabled-at (byte_at t) 0 n i h ∙ rw zero-add

-- a digit is a digit
pub digit-at-below : (t : State) (i j : ℕ) → digit_at t i j < 2
unfolding digit_at
digit-at-below t i j = elim (dec_lt i LOW) [
  | yes p ↦ rw (lt-ltb i LOW p) (digit-below (get_or (worth t.low) j 0) i)
  | no p ↦ rw (le-ltb i LOW (omega (arith, p))) (digit-below t.rest (8 * j + (i - LOW)))
]

weight_is : (j : ℕ) → j < 8 → 2 ^ j ≡ get_or units j 1
weight_is = eight (λ j. 2 ^ j ≡ get_or units j 1) refl refl refl refl refl refl refl refl

pub byte-below : (t : State) (i : ℕ) → byte_at t i < 256
unfolding byte_at
byte-below t i = unit-below (digit_at t i) (digit-at-below t i)

pub byte-digit : (t : State) (i j : ℕ) → j < 8 → digit (byte_at t i) j ≡ digit_at t i j
unfolding digit byte_at
byte-digit t i j h = rw (weight_is j h) (unit-back (digit_at t i) (digit-at-below t i) j h)

pub told_below : (n : ℕ) (t : State) (i : ℕ) → i < n → get_or (told n t) i 0 < 256
told_below n t i h = rw (told_at n t i h) (byte-below t i)

-- whatever the planes, they have the bytes that they tell
pub woven-told : (n : ℕ) (t : State) → Woven n t (told n t)
woven-told n t = record { each = λ i j h g. sym (rw (told_at n t i h) (byte-digit t i j g)) }

pub told-woven : (n : ℕ) (t : State) (s : List ℕ) → length s ≡ n → Below 256 s → Woven n t s → told n t ≡ s
unfolding digit byte_at
told-woven n t s long small a =
    ext_get_or 0 (told n t) s (length-told n t ∙ sym long)
    (λ i h.
    let g : i < n = omega (arith, length-told n t) in
    let x = get_or s i 0 in
    told_at n t i g
    ∙ weighed-by (digit_at t i) (λ j. x / get_or units j 1 % 2) 0 units
    (λ j l. let z : 0 + j ≡ j = omega arith in rw z (a.each i j g l ∙ ap (λ (w : ℕ). x / w % 2) (weight_is j l)))
    ∙ unit-whole x (below_at 256 s i small (omega arith)))

-- fewer of them
pub take-told : (m n : ℕ) (t : State) → m ≤ n → take m (told n t) ≡ told m t
take-told m n t h =
    let lm : length (take m (told n t)) ≡ m = length-take-le m (told n t) (omega (arith, length-told n t)) in
    ext_get_or 0 (take m (told n t)) (told m t) (lm ∙ sym (length-told m t))
    (λ i g. let w : i < m = omega arith in get_or-take m (told n t) i 0 w ∙ told_at n t i (omega arith) ∙ sym (told_at m t i w))

-- the digits of a plane
lowest : (d p : ℕ) → d < 2 → digit (d + 2 * p) 0 ≡ d
unfolding digit
lowest d p h = omega arith

halved : (d p : ℕ) → d < 2 → (d + 2 * p) / 2 ^ 1 ≡ p
halved d p h = omega arith

pub digit-plane : (j : ℕ) (s : List ℕ) (i : ℕ) → digit (plane j s) i ≡ digit (get_or s i 0) j
unfolding plane
digit-plane j [] i = digit-high 0 0 i (omega arith) (omega arith) ∙ sym (digit-high 0 0 j (omega arith) (omega arith))
digit-plane j (x ∷ s) zero = lowest (digit x j) (plane j s) (digit-below x j)
digit-plane j (x ∷ s) (suc i) =
    let e : suc i ≡ 1 + i = omega arith in
    ap (digit (digit x j + 2 * plane j s)) e ∙ sym (digit-shr (digit x j + 2 * plane j s) 1 i)
    ∙ ap (λ (y : ℕ). digit y i) (halved (digit x j) (plane j s) (digit-below x j)) ∙ digit-plane j s i

pub plane-below : (j : ℕ) (s : List ℕ) → plane j s < 2 ^ length s
unfolding plane
plane-below j [] = omega arith
plane-below j (x ∷ s) =
    let g : suc (length s) ≡ length s + 1 = omega arith in
    let e : 2 ^ suc (length s) ≡ 2 ^ length s * 2 = ap (λ (k : ℕ). 2 ^ k) g ∙ pow-add 2 (length s) 1 in
    rw e (omega (arith, plane-below j s, digit-below x j))

-- the planes by the digits that they hold
pub worth-plane : (s : List ℕ) (j : ℕ) → j < 8 → get_or (worth (planes_of s)) j 0 ≡ plane j s
worth-plane s = eight (λ j. get_or (worth (planes_of s)) j 0 ≡ plane j s) refl refl refl refl refl refl refl refl

rest-plane : (s : List ℕ) (j : ℕ) → j < 8
    → get_or (plane 0 s ∷ plane 1 s ∷ plane 2 s ∷ plane 3 s ∷ plane 4 s ∷ plane 5 s ∷ plane 6 s ∷ plane 7 s ∷ []) j 0 ≡ plane j s
rest-plane s = worth-plane s

-- the planes of bytes have those bytes
pub state-digit : (s : List ℕ) (i j : ℕ) → i < ROOM → j < 8 → digit_at (state_of s) i j ≡ digit (get_or s i 0) j
unfolding digit_at state_of rest_of
state-digit s i j h g = elim (dec_lt i LOW) [
  | yes p ↦
      rw (lt-ltb i LOW p)
      (ap (λ (x : ℕ). digit x i) (worth-plane (take LOW s) j g) ∙ digit-plane j (take LOW s) i ∙ ap (λ (b : ℕ). digit b j) (get_or-take LOW s i 0 p))
  | no p ↦
      let k = i - LOW in
      let t = take (ROOM - LOW) (drop LOW s) in
      let e : LOW + k ≡ i = omega (arith, p) in
      rw (le-ltb i LOW (omega (arith, p)))
      (digit-joined (plane 0 t ∷ plane 1 t ∷ plane 2 t ∷ plane 3 t ∷ plane 4 t ∷ plane 5 t ∷ plane 6 t ∷ plane 7 t ∷ []) j k (omega (arith, p))
      (omega (arith, p))
      ∙ ap (λ (x : ℕ). digit x k) (rest-plane t j g) ∙ digit-plane j t k
      ∙ ap (λ (b : ℕ). digit b j) (get_or-take (ROOM - LOW) (drop LOW s) k 0 (omega (arith, p)) ∙ get_or-drop LOW s k 0 ∙ ap (λ (m : ℕ). get_or s m 0) e))
]

pub state-woven : (n : ℕ) (s : List ℕ) → n ≤ ROOM → Woven n (state_of s) s
state-woven n s h = record { each = λ i j g l. state-digit s i j (omega arith) l }

pub told-state : (n : ℕ) (s : List ℕ) → n ≤ ROOM → length s ≡ n → Below 256 s → told n (state_of s) ≡ s
told-state n s h long small = told-woven n (state_of s) s long small (state-woven n s h)

-- a block XORed in: each digit
worth-xor : (p q : Planes) (j : ℕ) → j < 8 → get_or (worth (xor_planes p q)) j 0 ≡ bit_xor (get_or (worth p) j 0) (get_or (worth q) j 0)
worth-xor p q = eight (λ j. get_or (worth (xor_planes p q)) j 0 ≡ bit_xor (get_or (worth p) j 0) (get_or (worth q) j 0)) refl refl refl refl refl refl refl refl

pub mixed-digit : (bs : List ℕ) (t : State) (i j : ℕ) → i < ROOM → j < 8 → digit_at (mixed bs t) i j ≡ differ (digit (get_or bs i 0) j) (digit_at t i j)
unfolding mixed digit_at
mixed-digit bs t i j h g =
    let first = state-digit bs i j h g in
    elim (dec_lt i LOW) [
      | yes p ↦
          rw (lt-ltb i LOW p)
          (ap (λ (x : ℕ). digit x i) (worth-xor (state_of bs).low t.low j g) ∙ digit-xor (get_or (worth (state_of bs).low) j 0) (get_or (worth t.low) j 0) i
          ∙ ap (λ (d : ℕ). differ d (digit (get_or (worth t.low) j 0) i)) (rw (lt-ltb i LOW p) at first))
      | no p ↦
          let l = le-ltb i LOW (omega (arith, p)) in
          rw l
          (digit-xor (state_of bs).rest t.rest (8 * j + (i - LOW))
          ∙ ap (λ (d : ℕ). differ d (digit t.rest (8 * j + (i - LOW)))) (rw l at first))
    ]
