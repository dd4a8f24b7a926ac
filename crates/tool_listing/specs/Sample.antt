-- Document 01's sample, computed: with any key and font, whatever the editions and the layout, the stream 7E 41 7E 7E 7D 7E is listed as it says. Assumes
-- nothing.
use Rattle.std.specs.Prelude.{◌≡◌, ℕ, List, [], ◌∷◌, refl}
use Rattle.base_fields.specs.Fields.{front}
use Rattle.frame_body.specs.Fields.{fields_of, takes}
use Rattle.frame_stuff_spec.specs.Stuffing.{unstuffed, unescaped}
use Rattle.frame_stuff_spec.specs.Answers.{length_answer}
use Rattle.frame_stuff_spec.specs.Rules.{length_outside, length_inside}
use Rattle.frame_spec.specs.Told.{Told}
use Rattle.read_stretch.specs.Stretches.{after_mark, before_mark, next_span, next_stretch}
use Rattle.read_spec.specs.Judging.{judge}
use Rattle.read_spec.specs.Ceiling.{within}
use Rattle.read_readings.specs.Readings.{readings, readings_in}
use Rattle.read_call.specs.Answers.{judged_within}
use Rattle.tool_row.specs.Rows.{digits_in, line_text, row_text, last_row_text}
use Rattle.tool_listing.specs.Listing.{zeros_in, others_in, joined, listing_of, listing}

abbrev pub sample : List ℕ
sample = 0x7E ∷ 0x41 ∷ 0x7E ∷ 0x7E ∷ 0x7D ∷ 0x7E ∷ []

-- `1 7`, `4 6`, `lines 0 refused 2`, each with its newline
abbrev pub sample_rows : List ℕ
sample_rows =
    0x31 ∷ 0x20 ∷ 0x37 ∷ 0x0A ∷ 0x34 ∷ 0x20 ∷ 0x36 ∷ 0x0A ∷ 0x6C ∷ 0x69 ∷ 0x6E ∷ 0x65 ∷ 0x73 ∷ 0x20 ∷ 0x30 ∷ 0x20 ∷ 0x72 ∷ 0x65 ∷ 0x66 ∷ 0x75 ∷ 0x73 ∷ 0x65
    ∷ 0x64 ∷ 0x20 ∷ 0x32 ∷ 0x0A ∷ []

pub sample-listing : (t : Told) (ed : ℕ) → listing t ed sample ≡ sample_rows
unfolding listing_of joined zeros_in others_in row_text line_text last_row_text digits_in readings readings_in next_span before_mark after_mark next_stretch judged_within
    within judge length_answer length_outside length_inside unstuffed unescaped fields_of front takes
sample-listing t ed = refl
