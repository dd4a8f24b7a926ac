-- A known answer, so that the definition is held to a value that was not worked out from it: the second program's, which is written from the
-- papers alone (tests/second; the row `8 0 32` of crates/rows_digest/stdout). Instance 8 takes the fewest calls. Assumes nothing.
use Rattle.std.specs.Prelude.{◌≡◌, refl, true, List, [], ◌∷◌, ℕ}
use Rattle.base_lists.specs.Buffers.{same}
use Rattle.base_lists.specs.Sameness.{same-eq}
use Rattle.gage_cells.specs.Cells.{cells, bytes, follow, substitute}
use Rattle.gage_shuffle.specs.Shuffling.{tabled, weighed, shuffled_byte, shuffle}
use Rattle.gage_spec.specs.Permutation.{leaders, turns, permute_by, permute}
use Rattle.gage_sponge.specs.Padding.{padded, block}
use Rattle.gage_sponge.specs.Absorbing.{xored}
use Rattle.digest_spec.specs.Instances.{bit_size, bit_rate, size_of, rate_of, outputs_of}
use Rattle.digest_spec.specs.Hashing.{absorbed, squeezed, sponged, digest_of}
use Rattle.digest_spec.specs.Known.{known}

-- compared byte by byte, so that a wrong definition is found out at its first wrong byte
tested : same (digest_of 8 []) known ≡ true
unfolding same digest_of sponged squeezed absorbed bit_size bit_rate size_of rate_of outputs_of block padded xored permute permute_by turns leaders substitute cells
    bytes follow shuffle shuffled_byte weighed tabled
tested = refl

-- the digest of no bytes by instance 8
pub known-answer : digest_of 8 [] ≡ known
known-answer = same-eq (digest_of 8 []) known tested
