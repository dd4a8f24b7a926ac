-- Hexadecimal text: the digits of bytes, and the bytes of digits. Assumes nothing: these are definitions.
use Rattle.std.specs.Prelude.{Some, None, Option}
use Rattle.std.specs.Prelude.{ℕ, zero, suc, ◌+◌, ◌-◌, ◌*◌, ◌/◌, ◌%◌, Bool, true, false, cond, ◌&&◌, List, [], ◌∷◌, ltb, leb, length, get_or, take}
use Rattle.base_lists.specs.Buffers.{over}

-- 0 to 9 and A to F
abbrev pub digit : ℕ → ℕ
digit n = cond (ltb n 10) (0x30 + n) (0x37 + n)

unfoldable pub hex_of : List ℕ → List ℕ
hex_of [] = []
hex_of (b ∷ s) = digit (b / 16) ∷ digit (b % 16) ∷ hex_of s

-- as many bytes as o has room for
abbrev pub fitting : List ℕ → List ℕ → List ℕ
fitting s o = take (length o / 2) s

abbrev pub hex_length : List ℕ → List ℕ → ℕ
hex_length s o = 2 * length (fitting s o)

abbrev pub hex_out : List ℕ → List ℕ → List ℕ
hex_out s o = over (hex_of (fitting s o)) o

-- the value of a digit of either case
abbrev pub between : ℕ → ℕ → ℕ → Bool
between a c b = leb a c && leb c b

unfoldable pub value_of : ℕ → Option ℕ
value_of c =
    cond (between 0x30 c 0x39) (Some (c - 0x30))
    (cond (between 0x41 c 0x46) (Some (c - 0x37))
    (cond (between 0x61 c 0x66) (Some (c - 0x57)) None))

-- text of digits alone
abbrev pub is_digit : Option ℕ → Bool
is_digit (Some v) = true
is_digit None = false

unfoldable pub all_digits : List ℕ → Bool
all_digits [] = true
all_digits (b ∷ s) = cond (is_digit (value_of b)) (all_digits s) false

-- the value of the digit at a place
abbrev pub digit_of : Option ℕ → ℕ
digit_of (Some v) = v
digit_of None = 0

unfoldable pub digit_at : List ℕ → ℕ → ℕ
digit_at s at = digit_of (value_of (get_or s at 0))

-- two digits a byte, high digit first: byte i, and n of them from byte i on
abbrev pub byte_at : List ℕ → ℕ → ℕ
byte_at s i = digit_at s (2 * i) * 16 + digit_at s (2 * i + 1)

unfoldable pub bytes_from : List ℕ → ℕ → ℕ → List ℕ
bytes_from s i zero = []
bytes_from s i (suc n) = byte_at s i ∷ bytes_from s (suc i) n
