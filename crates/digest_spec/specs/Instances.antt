-- The ten instances of the digest as rows of a table, and what the sponge of each works with (document 000, Table 1.4; document
-- 01, 'The digest'). Assumes nothing: these are definitions.
use Rattle.std.specs.Prelude.{ℕ, ◌-◌, ◌/◌, Bool, true, cond, List, [], ◌∷◌, ltb, length, get_or}

-- the bits of a byte, and of a digest (Table 1.4: n)
abbrev pub BYTE : ℕ
BYTE = 8

abbrev pub DIGEST-BITS : ℕ
DIGEST-BITS = 256

-- the bytes of a digest: 32 (document 01, 'The digest')
abbrev pub DIGEST : ℕ
DIGEST = DIGEST-BITS / BYTE

-- state size b and rate r in bits
abbrev pub instances : List (List ℕ)
instances =
    (232 ∷ 8 ∷ []) ∷ (240 ∷ 16 ∷ []) ∷ (256 ∷ 32 ∷ []) ∷ (288 ∷ 64 ∷ []) ∷ (272 ∷ 16 ∷ []) ∷ (288 ∷ 32 ∷ []) ∷ (320 ∷ 64 ∷ [])
    ∷ (384 ∷ 128 ∷ []) ∷ (544 ∷ 32 ∷ []) ∷ (576 ∷ 64 ∷ []) ∷ []

-- instances are counted from 1
unfoldable pub unknown : ℕ → Bool
unknown i = cond (ltb i 1) true (ltb (length instances) i)

-- b and r of instance i
unfoldable pub bit_size : ℕ → ℕ
bit_size i = get_or (get_or instances (i - 1) []) 0 0

unfoldable pub bit_rate : ℕ → ℕ
bit_rate i = get_or (get_or instances (i - 1) []) 1 0

-- the same in bytes, and how often the rate makes the digest
unfoldable pub size_of : ℕ → ℕ
size_of i = bit_size i / BYTE

unfoldable pub rate_of : ℕ → ℕ
rate_of i = bit_rate i / BYTE

unfoldable pub outputs_of : ℕ → ℕ
outputs_of i = DIGEST-BITS / bit_rate i
