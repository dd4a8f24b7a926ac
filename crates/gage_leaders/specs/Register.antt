-- Order W9's rule of Table 1.11: an eight-bit register from AA; output the lowest bit, shift right, and if that bit was 1 XOR B8; counted from
-- 0, even entries are twice the bit, odd entries twice the bit plus 1. Assumes nothing: these are definitions.
use Rattle.std.specs.Prelude.{cond, List, [], ◌∷◌, ℕ, zero, suc, ◌+◌, ◌*◌, ◌/◌, ◌%◌, eqb}
use Rattle.std.specs.Int.Bits.{bit_xor}

-- the register at the start
abbrev pub start : ℕ
start = 0xAA

-- what it outputs: its lowest bit
abbrev pub bit : ℕ → ℕ
bit r = r % 2

-- the register after that: shifted right, and B8 XORed in if the bit was 1
unfoldable pub shifted : ℕ → ℕ
shifted r = cond (eqb (bit r) 1) (bit_xor (r / 2) 0xB8) (r / 2)

-- entry i, of the bit put out for it
abbrev pub entry : ℕ → ℕ → ℕ
entry i b = cond (eqb (i % 2) 0) (2 * b) (2 * b + 1)

-- n entries, from entry i on, with the register r before it
unfoldable pub entries : ℕ → ℕ → ℕ → List ℕ
entries r i zero = []
entries r i (suc n) = entry i (bit r) ∷ entries (shifted r) (suc i) n

-- the register r after k shifts, and the register before entry i
unfoldable pub after : ℕ → ℕ → ℕ
after r zero = r
after r (suc k) = after (shifted r) k

abbrev pub register : ℕ → ℕ
register i = after start i
