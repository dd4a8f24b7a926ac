-- A known answer, so that the definition is held to a value that was not worked out from it: the second program's, which is written from the
-- papers alone (tests/second; the row `8 0 32` of crates/rows_digest/stdout). Instance 8 takes the fewest calls. Assumes nothing.
use Rattle.std.specs.Prelude.{◌≡◌, refl, true, List, [], ◌∷◌, ℕ}
use Rattle.base_lists.specs.Buffers.{same}
use Rattle.base_lists.specs.Sameness.{same-eq}
use Rattle.gage_cells.specs.Cells.{cells, bytes, follow, substitute}
use Rattle.gage_shuffle.specs.Shuffling.{tabled, weighed, shuffled_byte, shuffle}
use Rattle.gage_spec.specs.Permutation.{leaders, turns, permute_by, permute}
use Rattle.gage_sponge.specs.Padding.{padded, block}
use Rattle.gage_sponge.specs.Absorbing.{xored}
use Rattle.digest_spec.specs.Instances.{bit_size, bit_rate, size_of, rate_of, outputs_of}
use Rattle.digest_spec.specs.Hashing.{absorbed, squeezed, sponged, digest_of}

abbrev pub known : List ℕ
known =
    0xD5 ∷ 0xEE ∷ 0x01 ∷ 0x04 ∷ 0x81 ∷ 0x90 ∷ 0x10 ∷ 0x77 ∷ 0x8D ∷ 0xCB ∷ 0x75 ∷ 0x8E ∷ 0xF3 ∷ 0xD9 ∷ 0xB5 ∷ 0x59 ∷ 0xDB ∷ 0x48 ∷ 0xF4 ∷ 0x87
    ∷ 0xAE ∷ 0xBF ∷ 0x93 ∷ 0x99 ∷ 0x5D ∷ 0x14 ∷ 0x6C ∷ 0xB1 ∷ 0x5F ∷ 0x37 ∷ 0x46 ∷ 0xB0 ∷ []
