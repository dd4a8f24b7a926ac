-- What callers cite: the bytes of a state with a block XORed in, and of a woven state. Assumes nothing.
use Rattle.std.specs.Prelude.{◌≡◌, refl, List, [], ◌∷◌, ℕ, zero, suc, ◌≤◌, ◌<◌, length, get_or, take}
use Rattle.std.proofs.Common.{sym, ap, ◌∙◌, not-suc-le-zero, le_of_suc-le-suc, arith, length-take-le, get_or-take}
use Rattle.std.specs.Int.Bits.{bit_xor, differ}
use Rattle.base_lists.specs.Below.{Below, below-take}
use Rattle.gage_sponge.specs.Absorbing.{xored}
use Rattle.gage_sponge.specs.Xor.{length-xored, xored-below}
use Rattle.base_digits.specs.Digits.{digit, digit-xor}
use Rattle.gage_planes_spec.specs.declared.State.{State}
use Rattle.gage_planes_spec.specs.Told.{ROOM, told, state_of, mixed}
use Rattle.gage_planes_spec.specs.Bytes.{woven-told, told-woven, length-told, mixed-digit, state-woven}
use Rattle.gage_planes_spec.proofs.Permuting.{told-bytes}

-- what stands in a state after a block was XORed in
xored-at : (bs s : List ℕ) (i : ℕ) → i < length s → get_or (xored bs s) i 0 ≡ bit_xor (get_or bs i 0) (get_or s i 0)
unfolding xored
xored-at [] s i h = refl
xored-at (b ∷ bs) [] i h = absurd (not-suc-le-zero h)
xored-at (b ∷ bs) (x ∷ s) zero h = refl
xored-at (b ∷ bs) (x ∷ s) (suc i) h = xored-at bs s i (le_of_suc-le-suc h)

-- r is a state t with the bytes bs XORed in, whatever its size
pub record MixedIn (bs : List ℕ) (t r : State) : Type 0 where
  pub each : (n : ℕ) → n ≤ ROOM → told n r ≡ xored bs (told n t)

pub told-mixed : (n : ℕ) (bs : List ℕ) (t : State) → n ≤ ROOM → Below 256 bs → told n (mixed bs t) ≡ xored bs (told n t)
told-mixed n bs t room small =
    let s = told n t in
    let ls = length-told n t in
    told-woven n (mixed bs t) (xored bs s) (length-xored bs s ∙ ls) (xored-below bs s small (told-bytes n t))
    (record {
      each = λ i j h g.
          mixed-digit bs t i j (omega arith) g
          ∙ ap (differ (digit (get_or bs i 0) j)) ((woven-told n t).each i j h g)
          ∙ sym (ap (λ (b : ℕ). digit b j) (xored-at bs s i (omega arith)) ∙ digit-xor (get_or bs i 0) (get_or s i 0) j);
    })

-- the first n bytes of a woven list
pub told-woven-list : (n : ℕ) (s : List ℕ) → n ≤ ROOM → n ≤ length s → Below 256 s → told n (state_of s) ≡ take n s
told-woven-list n s room long small =
    told-woven n (state_of s) (take n s) (length-take-le n s long) (below-take 256 n s small)
    (record { each = λ i j h g. (state-woven n s room).each i j h g ∙ ap (λ (b : ℕ). digit b j) (sym (get_or-take n s i 0 h)) })

pub mixed-in : (bs : List ℕ) (t r : State) → Below 256 bs → r ≡ mixed bs t → MixedIn bs t r
mixed-in bs t r small e = record { each = λ n h. ap (told n) e ∙ told-mixed n bs t h small }
