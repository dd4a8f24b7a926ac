-- What the functions over planes work out, as numbers. Which plane goes where, and by how many digits, stands in `moved` alone: every form of the shuffle
-- is `moved` with its own way of shifting. Assumes nothing: these are definitions.
use Rattle.std.specs.Prelude.{ℕ, ◌-◌, ◌*◌, ◌/◌, ◌%◌, ◌^◌, List, [], ◌∷◌}
use Rattle.std.specs.Int.Bits.{bit_and, bit_xor}
use Rattle.base_digits.specs.Held.{ONES}
use Rattle.base_digits.specs.Joined.{joined}
use Rattle.gage_planes_spec.specs.declared.Planes.{Planes}
use Rattle.gage_planes_spec.specs.declared.State.{State}
use Rattle.gage_planes_spec.specs.declared.Windows.{Windows}

-- the shuffle: each plane shifted, x by j, by what its element looks ahead, at its new place
abbrev pub moved : (ℕ → ℕ → ℕ) → Planes → Planes
moved by p = record {
  a = p.h;
  b = by p.b 6;
  c = by p.g 1;
  d = by p.a 7;
  e = by p.f 2;
  f = by p.c 5;
  g = by p.d 4;
  h = by p.e 3;
}

-- planes drawn out, or two windows: shifts
abbrev pub slid : Planes → Planes
slid p = moved (λ x j. x / 2 ^ j) p

-- 64 bytes: planes as wide as a number, turned
unfoldable pub rolled : ℕ → ℕ → ℕ
rolled x j = bit_xor (bit_and (x / 2 ^ j) (ONES / 2 ^ j)) (x * 2 ^ (64 - j) % 2 ^ 64)

abbrev pub rolled_all : Planes → Planes
rolled_all p = moved rolled p

-- the substitution: both bits of every product of a cell of the planes y and z with one of u and v (document 003, formula 6)
unfoldable pub upper : ℕ → ℕ → ℕ → ℕ → ℕ
upper y z u v = bit_xor (bit_xor y u) (bit_and z (bit_xor u v))

unfoldable pub lower : ℕ → ℕ → ℕ → ℕ → ℕ
lower y z u v = bit_xor (bit_xor (bit_xor ONES (bit_xor y z)) v) (bit_and z (bit_xor u v))

-- a plane one byte further on, with other digits where a state begins; with a bit l of the leader at each of them
unfoldable pub begun : ℕ → ℕ → ℕ → ℕ
begun x starts other = bit_xor (bit_and (x * 2 ^ 1 % 2 ^ 64) (bit_xor ONES starts)) other

abbrev pub led : ℕ → ℕ → ℕ → ℕ
led x starts l = begun x starts (l * starts)

abbrev pub products : ℕ → ℕ → Planes → Planes
products y z p = record {
  a = upper y z p.a p.b;
  b = lower y z p.a p.b;
  c = upper p.a p.b p.c p.d;
  d = lower p.a p.b p.c p.d;
  e = upper p.c p.d p.e p.f;
  f = lower p.c p.d p.e p.f;
  g = upper p.e p.f p.g p.h;
  h = lower p.e p.f p.g p.h;
}

abbrev pub substituted : Planes → ℕ → ℕ → Planes
substituted p starts leader = products (led p.g starts (leader / 2 % 2)) (led p.h starts (leader % 2)) p

-- one turn, y and z being what the leader's bits put where a state begins
abbrev pub turned_by : Planes → ℕ → ℕ → ℕ → Planes
turned_by p starts y z = products (begun (slid p).g starts y) (begun (slid p).h starts z) (slid p)

abbrev pub turned : Planes → ℕ → ℕ → Planes
turned p starts leader = substituted (slid p) starts leader

-- what they put there, by the leader: its left bit, and its right one
abbrev pub uppers : ℕ → List ℕ
uppers starts = 0 ∷ 0 ∷ starts ∷ starts ∷ []

abbrev pub lowers : ℕ → List ℕ
lowers starts = 0 ∷ starts ∷ 0 ∷ starts ∷ []

abbrev pub turned_around : Planes → ℕ → Planes
turned_around p leader = substituted (rolled_all p) 1 leader

-- a plane's first n digits, m having as many ones, with y's first n behind them
unfoldable pub beside : ℕ → ℕ → ℕ → ℕ → ℕ
beside x y m n = bit_xor (bit_and x m) (bit_and y m * 2 ^ n % 2 ^ 64)

-- planes drawn out: p's first n digits with q's behind them
abbrev pub drawn_out : Planes → Planes → ℕ → ℕ → Planes
drawn_out p q m n = record {
  a = beside p.a q.a m n;
  b = beside p.b q.b m n;
  c = beside p.c q.c m n;
  d = beside p.d q.d m n;
  e = beside p.e q.e m n;
  f = beside p.f q.f m n;
  g = beside p.g q.g m n;
  h = beside p.h q.h m n;
}

-- planes drawn out around their end
abbrev pub doubled : Planes → ℕ → ℕ → Planes
doubled p m n = drawn_out p p m n

-- planes cut to the digits of m
abbrev pub cut : Planes → ℕ → Planes
cut p m = record {
  a = bit_and p.a m;
  b = bit_and p.b m;
  c = bit_and p.c m;
  d = bit_and p.d m;
  e = bit_and p.e m;
  f = bit_and p.f m;
  g = bit_and p.g m;
  h = bit_and p.h m;
}

-- two windows, h bytes apart. In the second a state begins at digit h, and the cell before its first byte is the first window's cell of byte h - 1
abbrev pub led_from : ℕ → ℕ → ℕ → ℕ → ℕ
led_from x before h l = bit_xor (led x (1 * 2 ^ h % 2 ^ 64) l) (before / 2 ^ (h - 1) % 2)

abbrev pub substituted_behind : Planes → Planes → ℕ → ℕ → Planes
substituted_behind q p h leader = products (led_from q.g p.g h (leader / 2 % 2)) (led_from q.h p.h h (leader % 2)) q

abbrev pub substituted_both : Windows → ℕ → ℕ → Windows
substituted_both w h leader = record { first = substituted w.first 1 leader; second = substituted_behind w.second w.first h leader }

abbrev pub turned_both : Windows → ℕ → ℕ → Windows
turned_both w h leader = substituted_both (record { first = slid w.first; second = slid w.second }) h leader

-- each drawn out with the other behind it
abbrev pub drawn_both : Windows → ℕ → ℕ → Windows
drawn_both w m h = record { first = drawn_out w.first w.second m h; second = drawn_out w.second w.first m h }

-- the second window of a state in planes: what stands in a plane from digit h on, with a byte of the rest behind it
unfoldable pub behind : ℕ → ℕ → ℕ → ℕ
behind x y h = bit_xor (bit_and (x / 2 ^ h) (ONES / 2 ^ h)) (y % 256 * 2 ^ (64 - h) % 2 ^ 64)

abbrev pub second_of : State → ℕ → Planes
second_of t h = record {
  a = behind t.low.a (t.rest / 2 ^ 56) h;
  b = behind t.low.b (t.rest / 2 ^ 48) h;
  c = behind t.low.c (t.rest / 2 ^ 40) h;
  d = behind t.low.d (t.rest / 2 ^ 32) h;
  e = behind t.low.e (t.rest / 2 ^ 24) h;
  f = behind t.low.f (t.rest / 2 ^ 16) h;
  g = behind t.low.g (t.rest / 2 ^ 8) h;
  h = behind t.low.h t.rest h;
}

-- a byte of each plane, from digit i on, joined
abbrev pub taken : Planes → ℕ → ℕ
taken q i =
    joined (q.h / 2 ^ i ∷ q.g / 2 ^ i ∷ q.f / 2 ^ i ∷ q.e / 2 ^ i ∷ q.d / 2 ^ i ∷ q.c / 2 ^ i ∷ q.b / 2 ^ i ∷ q.a / 2 ^ i ∷ [])

-- and the state in planes that two windows hold
abbrev pub rejoined : Windows → ℕ → ℕ → State
rejoined w m h = record { low = drawn_out w.first w.second m h; rest = taken (cut w.second m) (64 - h) }
