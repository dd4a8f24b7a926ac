-- The known answer of the first instance: one byte of associated data and one of message, each a whole block that is followed by one more. The
-- value is the second program's, which is written from the papers alone (tests/second; the row `seal 1 1 1` of crates/rows_seal/stdout). Assumes
-- nothing.
use Rattle.std.specs.Prelude.{◌≡◌, refl, true, ◌++◌}
use Rattle.base_lists.specs.Buffers.{same}
use Rattle.base_lists.specs.Sameness.{same-eq}
use Rattle.gage_cells.specs.Cells.{cells, bytes, follow, substitute}
use Rattle.gage_shuffle.specs.Shuffling.{tabled, weighed, shuffled_byte, shuffle}
use Rattle.gage_spec.specs.Permutation.{leaders, turns, permute_by, permute}
use Rattle.gage_sponge.specs.Padding.{padded, block}
use Rattle.gage_sponge.specs.Absorbing.{xored}
use Rattle.ingage_spec.specs.Cipher.{last_xored, keyed, started, associated_block, absorbing, absorbed, begun, encrypting, finished, seal_of, encrypted}
use Rattle.demand_table.specs.First.{answer, known}

-- compared byte by byte
tested : same (answer.text ++ answer.seal) known ≡ true
unfolding same encrypted seal_of finished encrypting begun absorbed absorbing associated_block started keyed last_xored block padded xored permute permute_by turns
    leaders substitute cells bytes follow shuffle shuffled_byte weighed tabled
tested = refl

-- the ciphertext and the seal behind it
pub known-answer : answer.text ++ answer.seal ≡ known
known-answer = same-eq (answer.text ++ answer.seal) known tested
