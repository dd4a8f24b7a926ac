-- A known answer, so that the definitions are held to a value that was not worked out from them: the second program's, which is written from
-- the papers alone (tests/second; the row `seal 4 8 8` of crates/rows_seal/stdout). That of the first instance stands in the crate ingage_known. Assumes
-- nothing.
use Rattle.std.specs.Prelude.{◌≡◌, refl, true, List, [], ◌∷◌, ◌++◌, ℕ}
use Rattle.base_lists.specs.Buffers.{same}
use Rattle.base_lists.specs.Sameness.{same-eq}
use Rattle.gage_cells.specs.Cells.{cells, bytes, follow, substitute}
use Rattle.gage_shuffle.specs.Shuffling.{tabled, weighed, shuffled_byte, shuffle}
use Rattle.gage_spec.specs.Permutation.{leaders, turns, permute_by, permute}
use Rattle.gage_sponge.specs.Padding.{padded, block}
use Rattle.gage_sponge.specs.Absorbing.{xored}
use Rattle.ingage_spec.specs.Instances.{instance_of}
use Rattle.ingage_spec.specs.Cipher.{Work, last_xored, keyed, started, associated_block, absorbing}
use Rattle.ingage_spec.specs.Cipher.{absorbed, begun, encrypting, finished, seal_of, encrypted}

-- at the fourth instance, of a longer nonce and a larger state than the first and a rate of eight bytes, eight bytes of associated data and eight
-- of message: each is a whole block and is followed by one more
abbrev pub key : List ℕ
key = 0x00 ∷ 0x01 ∷ 0x02 ∷ 0x03 ∷ 0x04 ∷ 0x05 ∷ 0x06 ∷ 0x07 ∷ 0x08 ∷ 0x09 ∷ 0x0A ∷ 0x0B ∷ 0x0C ∷ 0x0D ∷ 0x0E ∷ 0x0F ∷ []

abbrev pub long_nonce : List ℕ
long_nonce =
    0xA0 ∷ 0xA1 ∷ 0xA2 ∷ 0xA3 ∷ 0xA4 ∷ 0xA5 ∷ 0xA6 ∷ 0xA7 ∷ 0xA8 ∷ 0xA9 ∷ 0xAA ∷ 0xAB ∷ 0xAC ∷ 0xAD ∷ 0xAE ∷ 0xAF ∷ []

abbrev pub long_answer : Work
long_answer = encrypted (instance_of 4) key long_nonce
    (0x08 ∷ 0x0B ∷ 0x0E ∷ 0x11 ∷ 0x14 ∷ 0x17 ∷ 0x1A ∷ 0x1D ∷ [])
    (0x09 ∷ 0x0E ∷ 0x13 ∷ 0x18 ∷ 0x1D ∷ 0x22 ∷ 0x27 ∷ 0x2C ∷ [])

abbrev pub long_known : List ℕ
long_known =
    0xA5 ∷ 0x84 ∷ 0x14 ∷ 0xBA ∷ 0x3F ∷ 0xAB ∷ 0xB0 ∷ 0x70 ∷ 0xD5 ∷ 0x89 ∷ 0x60 ∷ 0x83 ∷ 0xF4 ∷ 0xC2 ∷ 0x45 ∷ 0x44 ∷
    0x1D ∷ 0xBB ∷ 0x5E ∷ 0xFA ∷ 0xD4 ∷ 0xD9 ∷ 0x0E ∷ 0x1E ∷ []
