-- What the functions between bytes and planes work out. Assumes nothing: these are definitions.
use Rattle.std.specs.Prelude.{cond, List, ℕ, ◌*◌, ◌/◌, ◌%◌, ◌^◌, ltb}
use Rattle.std.specs.Int.Bits.{bit_and, bit_xor}
use Rattle.gage_shuffle.specs.Shuffling.{tabled}
use Rattle.base_digits.specs.Joined.{grown}
use Rattle.gage_planes_spec.specs.declared.Planes.{Planes}
use Rattle.gage_planes_spec.specs.declared.State.{State}
use Rattle.gage_planes_spec.specs.Planes.{taken}
use Rattle.gage_planes_spec.specs.Told.{LOW}

-- the digits where m has ones exchanged with those j further on
unfoldable pub exchanged : ℕ → ℕ → ℕ → ℕ
exchanged x j m =
    bit_xor (bit_xor x (bit_and (bit_xor x (x / 2 ^ j)) m)) (bit_and (bit_xor x (x / 2 ^ j)) m * 2 ^ j % 2 ^ 64)

-- eight bytes turned about: digit j of byte i goes to digit i of byte j
abbrev pub woven : ℕ → ℕ
woven x = exchanged (exchanged (exchanged x 7 0x00AA00AA00AA00AA) 14 0x0000CCCC0000CCCC) 28 0x00000000F0F0F0F0

-- a woven block put below the planes
abbrev pub drawn : Planes → ℕ → Planes
drawn q x = record {
  a = grown q.a (x / 2 ^ 56);
  b = grown q.b (x / 2 ^ 48);
  c = grown q.c (x / 2 ^ 40);
  d = grown q.d (x / 2 ^ 32);
  e = grown q.e (x / 2 ^ 24);
  f = grown q.f (x / 2 ^ 16);
  g = grown q.g (x / 2 ^ 8);
  h = grown q.h x;
}

-- the eight bytes of a state from byte i on, woven
unfoldable pub eight_of : State → ℕ → ℕ
eight_of t i = cond (ltb i LOW) (taken t.low i) t.rest

-- the lowest n bytes of a number, the lowest first
unfoldable pub bytes_of : ℕ → ℕ → List ℕ
bytes_of x n = tabled (λ k. x / 2 ^ (8 * k) % 256) 0 n
