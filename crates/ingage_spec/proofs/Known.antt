-- A known answer, so that the definitions are held to a value that was not worked out from them: the second program's, which is written from
-- the papers alone (tests/second; the row `seal 4 8 8` of crates/rows_seal/stdout). That of the first instance stands in the crate ingage_known. Assumes
-- nothing.
use Rattle.std.specs.Prelude.{◌≡◌, refl, true, List, [], ◌∷◌, ◌++◌, ℕ}
use Rattle.base_lists.specs.Buffers.{same}
use Rattle.base_lists.specs.Sameness.{same-eq}
use Rattle.gage_cells.specs.Cells.{cells, bytes, follow, substitute}
use Rattle.gage_shuffle.specs.Shuffling.{tabled, weighed, shuffled_byte, shuffle}
use Rattle.gage_spec.specs.Permutation.{leaders, turns, permute_by, permute}
use Rattle.gage_sponge.specs.Padding.{padded, block}
use Rattle.gage_sponge.specs.Absorbing.{xored}
use Rattle.ingage_spec.specs.Instances.{instance_of}
use Rattle.ingage_spec.specs.Cipher.{Work, last_xored, keyed, started, associated_block, absorbing}
use Rattle.ingage_spec.specs.Cipher.{absorbed, begun, encrypting, finished, seal_of, encrypted}
use Rattle.ingage_spec.specs.Known.{long_answer, long_known}

-- compared byte by byte, so that a wrong definition is found out at its first wrong byte
long-tested : same (long_answer.text ++ long_answer.seal) long_known ≡ true
unfolding same encrypted seal_of finished encrypting begun absorbed absorbing associated_block started keyed last_xored block padded xored permute permute_by turns
    leaders substitute cells bytes follow shuffle shuffled_byte weighed tabled instance_of
long-tested = refl

-- the ciphertext and the seal behind it
pub long-known-answer : long_answer.text ++ long_answer.seal ≡ long_known
long-known-answer = same-eq (long_answer.text ++ long_answer.seal) long_known long-tested
