-- A block of one byte: it is XORed in and told without weaving, a digit a plane. Assumes nothing.
use Rattle.std.specs.Prelude.{◌≡◌, refl, List, [], ◌∷◌, ℕ, ◌+◌, ◌*◌, ◌%◌, min, length, get_or, set}
use Rattle.std.proofs.Common.{sym, ap, ◌∙◌, add-zero, mod-eq_of_lt, arith}
use Rattle.std.specs.Int.Bits.{bit_xor}
use Rattle.base_lists.specs.Buffers.{over}
use Rattle.base_digits.specs.Digits.{digit}
use Rattle.base_digits.specs.Joined.{grown}
use Rattle.gage_shuffle.specs.Shuffling.{weighed, tabled}
use Rattle.gage_planes_spec.specs.declared.State.{State}
use Rattle.gage_planes_spec.specs.Told.{ROOM, plane, rest_of, state_of, mixed, digit_at, byte_at, told}
use Rattle.gage_planes_spec.specs.Bytes.{byte-below}
use Rattle.gage_planes_spec.specs.Exact.{same-planes, same-states}

pub lone : (xs : List ℕ) → length xs ≡ 1 → xs ≡ get_or xs 0 0 ∷ []
lone [] h = absurd (omega (arith, h))
lone (x ∷ []) h = refl
lone (x ∷ (y ∷ r)) h = absurd (omega (arith, h))

-- a byte XORed in
pub mixed_one : (x : ℕ) (t : State)
    → ◌≡◌ {A = State} (record {
      low = record {
        a = bit_xor (digit x 7) t.low.a;
        b = bit_xor (digit x 6) t.low.b;
        c = bit_xor (digit x 5) t.low.c;
        d = bit_xor (digit x 4) t.low.d;
        e = bit_xor (digit x 3) t.low.e;
        f = bit_xor (digit x 2) t.low.f;
        g = bit_xor (digit x 1) t.low.g;
        h = bit_xor (digit x 0) t.low.h;
      };
      rest = t.rest;
    }) (mixed (x ∷ []) t)
unfolding mixed state_of rest_of plane grown
mixed_one x t = same-states (same-planes (one 7 _) (one 6 _) (one 5 _) (one 4 _) (one 3 _) (one 2 _) (one 1 _) (one 0 _)) refl
  where
    one : (j y : ℕ) → bit_xor (digit x j) y ≡ bit_xor (digit x j + 2 * 0) y
    one j y = ap (λ (d : ℕ). bit_xor d y) (sym (add-zero (digit x j)))

-- the first byte, and that alone told
lowest : (x : ℕ) → x % 2 ≡ digit x 0
unfolding digit
lowest x = omega arith

by-weight : (a b c d e f g h : ℕ)
    → (a * 8 + b * 4 + c * 2 + d) * 16 + (e * 8 + f * 4 + g * 2 + h) ≡ h * 1 + (g * 2 + (f * 4 + (e * 8 + (d * 16 + (c * 32 + (b * 64 + (a * 128 + 0)))))))
by-weight a b c d e f g h = omega arith

pub first-is : (t : State)
    → ((t.low.a % 2 * 8 + t.low.b % 2 * 4 + t.low.c % 2 * 2 + t.low.d % 2) * 16 +
    (t.low.e % 2 * 8 + t.low.f % 2 * 4 + t.low.g % 2 * 2 + t.low.h % 2)) % 256
    ≡ byte_at t 0
unfolding byte_at weighed digit_at
first-is t =
    let p = t.low in
    rw (lowest p.a, lowest p.b, lowest p.c, lowest p.d, lowest p.e, lowest p.f, lowest p.g, lowest p.h)
    (ap (λ (x : ℕ). x % 256) (by-weight (digit p.a 0) (digit p.b 0) (digit p.c 0) (digit p.d 0) (digit p.e 0) (digit p.f 0) (digit p.g 0)
    (digit p.h 0))
    ∙ mod-eq_of_lt (byte-below t 0))

pub told-one : (t : State) (o : List ℕ) (b : ℕ) → length o ≡ 1 → b ≡ byte_at t 0 → set o 0 b ≡ over (told (min (length o) ROOM) t) o
unfolding told tabled
told-one t [] b h e = absurd (omega (arith, h))
told-one t (x ∷ []) b h e = ap (λ (y : ℕ). y ∷ []) e
told-one t (x ∷ (y ∷ r)) b h e = absurd (omega (arith, h))
