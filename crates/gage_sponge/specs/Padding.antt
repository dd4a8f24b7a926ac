-- Message padding and blocks (document 000, section 1.1.3, Algorithm 3; document 01, 'The digest'), over the rate R in bytes.
-- Assumes nothing: these are definitions, and padding at R = 4 computed.
use Rattle.std.specs.Prelude.{◌≡◌, refl, ℕ, ◌+◌, ◌-◌, ◌*◌, ◌/◌, ◌%◌, List, [], ◌∷◌, ◌++◌, length, take, drop, replicate}

-- the byte behind a message (document 000, Algorithm 3)
abbrev pub STOP : ℕ
STOP = 0x80

-- it and the fewest zeros that make a multiple of R bytes: Algorithm 3's block count decides over its zero count
unfoldable pub padded : ℕ → List ℕ → List ℕ
padded R m = m ++ (STOP ∷ replicate (R - 1 - length m % R) 0)

-- at R = 4 the empty message makes one block (Algorithm 3's zeros taken literally: 80 00), 3 bytes make one, 4 bytes two
pub padded-none : padded 4 [] ≡ 0x80 ∷ 0x00 ∷ 0x00 ∷ 0x00 ∷ []
unfolding padded
padded-none = refl

pub padded-three : (a b c : ℕ) → padded 4 (a ∷ b ∷ c ∷ []) ≡ a ∷ b ∷ c ∷ 0x80 ∷ []
unfolding padded
padded-three a b c = refl

pub padded-four : (a b c d : ℕ) → padded 4 (a ∷ b ∷ c ∷ d ∷ []) ≡ a ∷ b ∷ c ∷ d ∷ 0x80 ∷ 0x00 ∷ 0x00 ∷ 0x00 ∷ []
unfolding padded
padded-four a b c d = refl

-- how many blocks that makes
abbrev pub block_count : ℕ → List ℕ → ℕ
block_count R m = length m / R + 1

-- block i, counted from 0
unfoldable pub block : ℕ → List ℕ → ℕ → List ℕ
block R m i = take R (drop (i * R) (padded R m))

-- the largest rate in bytes (document 000, Table 1.4: r = 128 bits in instance 8)
abbrev pub LARGEST-RATE : ℕ
LARGEST-RATE = 16

-- what is left of a message, padded at the largest rate: its first R bytes are the last block at a smaller rate R
unfoldable pub last_block : List ℕ → List ℕ
last_block rest = padded LARGEST-RATE (take (LARGEST-RATE - 1) rest)
