-- What a case on a standard input says: the numbers of its head, of four bytes each, and the parts of its bytes.
-- Assumes nothing: these are definitions.
use Rattle.std.specs.Prelude.{ℕ, ◌+◌, ◌*◌, ◌/◌, ◌%◌, ◌^◌, Bool, false, cond, List, [], length, replicate, nat_le, nat_lt, slice_index, slice_range}
use Rattle.base_ramp.specs.Rule.{ramp}

-- four bytes as a number, the high byte first
unfoldable pub four_bytes : ℕ → ℕ → ℕ → ℕ → ℕ
four_bytes a b c d = ((a * 256 + b) * 256 + c) * 256 + d

-- the number that stands at a place of a head
abbrev pub number_at : List ℕ → ℕ → ℕ
number_at h at = four_bytes (slice_index h at) (slice_index h (at + 1)) (slice_index h (at + 2)) (slice_index h (at + 3))

-- number i of a head; 0 where it has none
unfoldable pub number_in : List ℕ → ℕ → ℕ
number_in h i = cond (nat_lt i (length h / 4)) (number_at h (4 * i)) 0

-- where the part ends of which number i is the length, from where the part before it ends; a machine's sum
unfoldable pub end_in : List ℕ → ℕ → ℕ → ℕ
end_in h i before = (before + number_in h i) % 2 ^ 64

-- whether two places are in order and within the bytes
abbrev pub in_order : List ℕ → ℕ → ℕ → Bool
in_order s from to = cond (nat_le to (length s)) (nat_le from to) false

-- the bytes from one place up to another, and where they start: none, at the start, where these are no places in order
unfoldable pub part_in : List ℕ → ℕ → ℕ → List ℕ
part_in s from to = cond (in_order s from to) (slice_range s from to) []

unfoldable pub part_start : List ℕ → ℕ → ℕ → ℕ
part_start s from to = cond (in_order s from to) from 0

-- the rules' key, byte i of which is 10 (hex) + i, and their font digest, byte i of which is 3*i + 1; each is one byte longer than a right one
unfoldable pub rule_key : List ℕ
rule_key = ramp 16 1 17

unfoldable pub rule_font : List ℕ
rule_font = ramp 1 3 33

-- the room for the longest case, before one is read
unfoldable pub no_bytes : List ℕ
no_bytes = replicate 131072 0
