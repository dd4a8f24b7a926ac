-- How large a state is (document 01, 'The permutation'), and a wide one. Assumes nothing: these are definitions.
use Rattle.std.specs.Prelude.{ℕ}

-- the largest permitted state in bytes: the room that every state has
abbrev pub LARGEST : ℕ
LARGEST = 72

-- the room of a wide state: six words of 16 bytes
abbrev pub WIDE : ℕ
WIDE = 96
