-- How much of a state the shuffle looks ahead, and from which size on it can. Assumes nothing: these are definitions.
use Rattle.std.specs.Prelude.{ℕ}

-- a byte's elements come from it and from seven more
abbrev pub AHEAD : ℕ
AHEAD = 7

-- the room for a state with those wrapped around, and one byte that stays unused, so that it is whole words of 16 bytes
abbrev pub WRAPPED : ℕ
WRAPPED = 80

-- the smallest state whose elements all come from different bytes
abbrev pub SMALLEST : ℕ
SMALLEST = 8
