-- The count of a reading (document 01, 'Numbers returned'; orders W2 and W7): 0 for 7, 6 and 8; for 5, 9, 13, 17 and a line n + 39 (in edition two n + 46,
-- order W6), n being the length of the line's ciphertext. Assumes nothing.
use Rattle.std.specs.Prelude.{◌≡◌, refl, List, ℕ, ◌+◌, length}
use Rattle.std.proofs.Common.{arith}
use Rattle.ingage_spec.proofs.Results.{open-calls-first}
use Rattle.frame_stuff_spec.specs.Stuffing.{unstuffed}
use Rattle.frame_body.specs.Fields.{job_size, Own, fields_of, associated}
use Rattle.frame_body.proofs.Lengths.{length-associated}
use Rattle.frame_body.proofs.Job.{job-sized}
use Rattle.frame_spec.specs.Told.{Told}
use Rattle.frame_spec.specs.Lengths.{beside_line}
use Rattle.read_spec.specs.Sizes.{Sizes}
use Rattle.read_spec.specs.Editions.{among-fields}
use Rattle.read_spec.specs.Judged.{Judged, shape, stuffing, font, work, seal, unlisted, trade, layout, line, calls_in}
use Rattle.read_spec.specs.Judging.{judge}
use Rattle.read_spec.specs.Cases.{Holds, Case, opening, too_long, bad-stuffing, no_fields}
use Rattle.read_spec.specs.Cases.{other-font, other-seal, not_listed, not-trade, not-laid, given}

-- the stretch's fields hold a ciphertext, and the count is that of opening one of its length
abbrev pub OpenedWith : Told → ℕ → List ℕ → ℕ → Type 0
OpenedWith t ed s calls = (own : Own) × (cipher T : List ℕ) × Holds ed s own t.font cipher T × (calls ≡ length cipher + beside_line own.edition)

-- case by case, in the order of the numbers: 7, 6, 8, 5, 9, 13, 17, a line
abbrev pub Counted : Told → ℕ → List ℕ → Judged → Type 0
Counted t ed s shape = calls_in shape ≡ 0
Counted t ed s stuffing = calls_in stuffing ≡ 0
Counted t ed s font = calls_in font ≡ 0
Counted t ed s work = calls_in work ≡ 0
Counted t ed s (seal n) = OpenedWith t ed s (calls_in (seal n))
Counted t ed s (unlisted n) = OpenedWith t ed s (calls_in (unlisted n))
Counted t ed s (trade n) = OpenedWith t ed s (calls_in (trade n))
Counted t ed s (layout n) = OpenedWith t ed s (calls_in (layout n))
Counted t ed s (line own l n) = OpenedWith t ed s (calls_in (line own l n))
