-- The bytes of a state in planes, and the planes of a state's bytes. Assumes nothing: these are definitions.
use Rattle.std.specs.Prelude.{cond, List, [], ◌∷◌, ℕ, ◌+◌, ◌-◌, ◌*◌, ltb, get_or, take, drop}
use Rattle.std.specs.Int.Bits.{bit_xor}
use Rattle.gage_shuffle.specs.Shuffling.{weighed, units, tabled}
use Rattle.base_digits.specs.Digits.{digit}
use Rattle.base_digits.specs.Joined.{joined}
use Rattle.gage_planes_spec.specs.declared.Planes.{Planes}
use Rattle.gage_planes_spec.specs.declared.State.{State}

-- the bytes that planes of one number hold, and those that a state in planes has
abbrev pub LOW : ℕ
LOW = 64

abbrev pub ROOM : ℕ
ROOM = 72

-- the planes by the digit of a byte that they hold: the rightmost bits first
abbrev pub worth : Planes → List ℕ
worth p = p.h ∷ p.g ∷ p.f ∷ p.e ∷ p.d ∷ p.c ∷ p.b ∷ p.a ∷ []

-- digit j of byte i
unfoldable pub digit_at : State → ℕ → ℕ → ℕ
digit_at t i j = cond (ltb i LOW) (digit (get_or (worth t.low) j 0) i) (digit t.rest (8 * j + (i - LOW)))

-- byte i, and the first n bytes
unfoldable pub byte_at : State → ℕ → ℕ
byte_at t i = weighed (digit_at t i) 0 units

unfoldable pub told : ℕ → State → List ℕ
told n t = tabled (byte_at t) 0 n

-- digit j of every byte, byte 0's the lowest
unfoldable pub plane : ℕ → List ℕ → ℕ
plane j [] = 0
plane j (x ∷ s) = digit x j + 2 * plane j s

abbrev pub planes_of : List ℕ → Planes
planes_of s = record {
  a = plane 7 s;
  b = plane 6 s;
  c = plane 5 s;
  d = plane 4 s;
  e = plane 3 s;
  f = plane 2 s;
  g = plane 1 s;
  h = plane 0 s;
}

-- at most eight bytes woven into one number
unfoldable pub rest_of : List ℕ → ℕ
rest_of s = joined (plane 0 s ∷ plane 1 s ∷ plane 2 s ∷ plane 3 s ∷ plane 4 s ∷ plane 5 s ∷ plane 6 s ∷ plane 7 s ∷ [])

-- the planes of a state's bytes, and of no others
unfoldable pub state_of : List ℕ → State
state_of s = record { low = planes_of (take LOW s); rest = rest_of (take (ROOM - LOW) (drop LOW s)) }

-- XOR
abbrev pub xor_planes : Planes → Planes → Planes
xor_planes p q = record {
  a = bit_xor p.a q.a;
  b = bit_xor p.b q.b;
  c = bit_xor p.c q.c;
  d = bit_xor p.d q.d;
  e = bit_xor p.e q.e;
  f = bit_xor p.f q.f;
  g = bit_xor p.g q.g;
  h = bit_xor p.h q.h;
}

-- a block XORed into a state's first bytes
unfoldable pub mixed : List ℕ → State → State
mixed bs t = record { low = xor_planes (state_of bs).low t.low; rest = bit_xor (state_of bs).rest t.rest }
