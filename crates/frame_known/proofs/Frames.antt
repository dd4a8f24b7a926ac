-- A whole frame of each edition as bytes: the line sealed, its body, stuffed and between two marks. The values are the second program's, which is
-- written from the papers alone (tests/second; the rows `write 0 1` and `edition 0` of crates/rows_seal/stdout). Assumes nothing.
use Rattle.std.specs.Prelude.{◌≡◌, refl, true, List, [], ◌∷◌, ℕ}
use Rattle.base_lists.specs.Buffers.{same}
use Rattle.base_lists.specs.Sameness.{same-eq}
use Rattle.gage_cells.specs.Cells.{cells, bytes, follow, substitute}
use Rattle.gage_shuffle.specs.Shuffling.{tabled, weighed, shuffled_byte, shuffle}
use Rattle.gage_spec.specs.Permutation.{leaders, turns, permute_by, permute}
use Rattle.gage_sponge.specs.Padding.{padded, block}
use Rattle.gage_sponge.specs.Absorbing.{xored}
use Rattle.ingage_spec.specs.Cipher.{last_xored, keyed, started, associated_block, absorbing, absorbed, begun, encrypting, finished, seal_of, encrypted}
use Rattle.frame_stuff_spec.specs.Stuffing.{stuffed}
use Rattle.line_layout.specs.declared.Layout.TheVariants.{Neither}
use Rattle.frame_body.specs.Fields.{field, job_field, associated, body}
use Rattle.frame_body.specs.Known.{own_one, digest_one, own_two, digest_two}
use Rattle.frame_spec.specs.Told.{told}
use Rattle.frame_spec.specs.Frames.{sealed_line, sealed_body, framed, frame_of}
use Rattle.frame_known.specs.Frames.{frame_one, known_one, frame_two, known_two}

-- compared byte by byte
tested-one : same frame_one known_one ≡ true
unfolding same frame_of framed stuffed sealed_body sealed_line body associated job_field field encrypted seal_of finished encrypting begun absorbed absorbing
    associated_block started keyed last_xored block padded xored permute permute_by turns leaders substitute cells bytes follow shuffle shuffled_byte weighed tabled
tested-one = refl

tested-two : same frame_two known_two ≡ true
unfolding same frame_of framed stuffed sealed_body sealed_line body associated job_field field encrypted seal_of finished encrypting begun absorbed absorbing
    associated_block started keyed last_xored block padded xored permute permute_by turns leaders substitute cells bytes follow shuffle shuffled_byte weighed tabled
tested-two = refl

pub frame-one-known : frame_one ≡ known_one
frame-one-known = same-eq frame_one known_one tested-one

pub frame-two-known : frame_two ≡ known_two
frame-two-known = same-eq frame_two known_two tested-two
