-- Order W13 with no writer in it, over whole runs of `read` from the start: non-empty runs free of marks, each between marks of its own and with
-- a filler free of marks behind it, are read run by run; directly behind each its filler, where that is not empty and another run follows; then
-- the end. Whatever is allowed, and nothing need be bytes. Assumes nothing.
use Rattle.std.specs.Prelude.{◌≡◌, List, [], ℕ, ◌≤◌, length}
use Rattle.std.proofs.Common.{ap, ◌∙◌, arith}
use Rattle.frame_spec.specs.Told.{told}
use Rattle.read_spec.specs.Sizes.{Sizes}
use Rattle.read_readings.specs.Joined.{Piece, Fits, joined, pieces_read}
use Rattle.read_readings.proofs.Joined.{joined-readings}
use Rattle.read_call.specs.declared.Asked.{Asked}
use Rattle.read_call.specs.Answers.{longest_stream, judged_within}
use Rattle.demand_reading.specs.Promises.{Seen, Run}
use Rattle.demand_reading.specs.Reaching.{Ended}
use Rattle.demand_joined.specs.Seeing.{seen_to, run-readings}

pub stretches-read : (key font : List ℕ) (asked : Asked) → Sizes (told key font asked.layout)
    → (ps : List Piece) → Fits ps → length (joined ps) ≤ longest_stream
    → {seen : List Seen} → Run key font asked (joined ps) 0 0 seen → Ended seen
    → seen ≡ seen_to (length (joined ps)) (pieces_read (judged_within (told key font asked.layout) asked) 0 ps)
stretches-read key font asked z ps g h run end =
    run-readings key font asked (joined ps) z h 0 (omega arith) run end
    ∙ ap (seen_to (length (joined ps))) (joined-readings (judged_within (told key font asked.layout) asked) ps g [])
