-- The listing of a stream is that of a whole run of `read` (demand_reading/specs/Whole.antt), with all the work allowed: one row for each reading before the
-- end, in order, with the line's bytes exactly where a line is given, and the counts of them. From the promise of `read` alone. Assumes nothing.
use Rattle.std.specs.Prelude.{ℕ, ◌-◌, false, cond, List, [], ◌∷◌}
use Rattle.read_spec.specs.Judged.{number_in, line_in, label_in, calls_in}
use Rattle.read_readings.specs.Readings.{Reading}
use Rattle.demand_reading.specs.Promises.{Seen}
use Rattle.tool_row.specs.Rows.{row_text}

-- what is seen before the end
unfoldable pub stretches_in : List Seen → List Seen
stretches_in [] = []
stretches_in (v ∷ l) = cond v.ended [] (v ∷ stretches_in l)

-- the row of what is seen of a reading, and its number
abbrev pub seen_row : Seen → List ℕ
seen_row v = row_text v.first v.number v.line

abbrev pub seen_number : Seen → ℕ
seen_number v = v.number

-- what is seen of a reading, places counted from the start
abbrev pub seen_of : Reading → Seen
seen_of r = record {
  number = number_in r.judged;
  ended = false;
  first = r.place.first - 0;
  closing = r.place.closing - 0;
  calls = calls_in r.judged;
  edition = (label_in r.judged).edition;
  job = (label_in r.judged).job;
  line = line_in r.judged;
}
