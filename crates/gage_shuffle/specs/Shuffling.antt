-- The bit shuffling of document 000, section 1.1.1 (formulas 1.3 and 1.4), and its inverse. The reading of those
-- formulas (docs/DECISIONS.md) stands in `element`, `places` and `weight`; `origins` and `source` follow from it.
-- Assumes nothing: these are definitions.
use Rattle.std.specs.Prelude.{◌≡◌, ℕ, zero, suc, ◌+◌, ◌*◌, ◌/◌, ◌%◌, ◌^◌, ◌-◌, ◌<◌, List, [], ◌∷◌, map, get_or, length}

-- the bits of a byte
abbrev pub BITS : ℕ
BITS = 8

-- formula 1.4: the places of the elements 1 to 8; place 1 is the leftmost bit
abbrev pub places : List ℕ
places = 1 ∷ 3 ∷ 5 ∷ 8 ∷ 7 ∷ 6 ∷ 2 ∷ 4 ∷ []

-- bit k of a byte, counted from the left, from 0
abbrev pub bit : ℕ → ℕ → ℕ
bit k b = b / 2 ^ (7 - k) % 2

-- formula 1.3: element j + 1 of byte i is bit 7 - j of byte (i + j) mod n
abbrev pub element : List ℕ → ℕ → ℕ → ℕ
element s i j = bit (7 - j) (get_or s ((i + j) % length s) 0)

-- the places that the elements 1 to 8 come from: element j + 1 is bit 7 - j, counted from 0
abbrev pub comings : List ℕ
comings = 8 ∷ 7 ∷ 6 ∷ 5 ∷ 4 ∷ 3 ∷ 2 ∷ 1 ∷ []

-- what a bit at a place counts in its byte: each element at its place, and where it comes from
abbrev pub weight : ℕ → ℕ
weight p = 2 ^ (BITS - p)

abbrev pub weights : List ℕ
weights = map weight places

abbrev pub origins : List ℕ
origins = map weight comings

-- a byte's places from the right, and what they count: whatever the shuffle takes for its elements
abbrev pub rights : List ℕ
rights = 8 ∷ 7 ∷ 6 ∷ 5 ∷ 4 ∷ 3 ∷ 2 ∷ 1 ∷ []

abbrev pub units : List ℕ
units = map weight rights

-- the byte whose bits are b j, b (j + 1), .. each with its weight
unfoldable pub weighed : (ℕ → ℕ) → ℕ → List ℕ → ℕ
weighed b j [] = 0
weighed b j (w ∷ ws) = b j * w + weighed b (suc j) ws

-- f i, f (i + 1), .. n of them
unfoldable pub tabled : (ℕ → ℕ) → ℕ → ℕ → List ℕ
tabled f i zero = []
tabled f i (suc n) = f i ∷ tabled f (suc i) n

-- the byte whose bits stand at their places in eight
unfoldable pub returned : List ℕ → ℕ
returned xs = weighed (λ j. get_or xs j 0 / get_or weights j 1 % 2) 0 origins

-- byte i of the shuffled state: its eight elements, each at its place
unfoldable pub shuffled_byte : List ℕ → ℕ → ℕ
shuffled_byte s i = weighed (element s i) 0 weights

unfoldable pub shuffle : List ℕ → List ℕ
shuffle s = tabled (shuffled_byte s) 0 (length s)

-- the inverse: element j + 1 of byte k - j comes from byte k, and is read back at its place
abbrev pub source : List ℕ → ℕ → ℕ → ℕ
source s k j = get_or s ((k + (length s - j)) % length s) 0 / get_or weights j 1 % 2

unfoldable pub unshuffled_byte : List ℕ → ℕ → ℕ
unshuffled_byte s k = weighed (source s k) 0 origins

unfoldable pub unshuffle : List ℕ → List ℕ
unshuffle s = tabled (unshuffled_byte s) 0 (length s)

-- r is e with count bytes of s, from the place `from` on, put at the place `place`; what stands behind them may be anything
pub record Joined (e : List ℕ) (place : ℕ) (s : List ℕ) (from count : ℕ) (r : List ℕ) : Type 0 where
  pub kept : (k : ℕ) → k < place → get_or r k 0 ≡ get_or e k 0
  pub put : (k : ℕ) → k < count → get_or r (place + k) 0 ≡ get_or s (from + k) 0
