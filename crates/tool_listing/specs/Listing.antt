-- The listing of a stream (document 01, 'The listing program'), over its readings: one row for each, in order, then `lines L refused F`, L counting the rows
-- with number 0 and F the others. Assumes nothing: these are definitions.
use Rattle.std.specs.Prelude.{ℕ, suc, cond, List, [], ◌∷◌, ◌++◌, map, ◌==◌}
use Rattle.line_layout.specs.declared.Layout.{Layout}
use Rattle.frame_spec.specs.Told.{Told}
use Rattle.read_spec.specs.Judged.{Judged, number_in, line_in}
use Rattle.read_spec.specs.Ceiling.{all_work}
use Rattle.read_readings.specs.Readings.{Reading, readings}
use Rattle.read_call.specs.declared.Asked.{Asked}
use Rattle.read_call.specs.Answers.{judged_within}
use Rattle.tool_row.specs.Rows.{row_text, last_row_text}

-- the row of a reading: the place of the stretch's first byte, its number, and its line where one is given
abbrev pub reading_row : Reading → List ℕ
reading_row r = row_text r.place.first (number_in r.judged) (line_in r.judged)

abbrev pub row_number : Reading → ℕ
row_number r = number_in r.judged

-- how many of some numbers are 0, and how many are not
unfoldable pub zeros_in : List ℕ → ℕ
zeros_in [] = 0
zeros_in (n ∷ l) = cond (n == 0) (suc (zeros_in l)) (zeros_in l)

unfoldable pub others_in : List ℕ → ℕ
others_in [] = 0
others_in (n ∷ l) = cond (n == 0) (others_in l) (suc (others_in l))

-- rows one behind the other
unfoldable pub joined : List (List ℕ) → List ℕ
joined [] = []
joined (w ∷ l) = w ++ joined l

-- the listing of readings
unfoldable pub listing_of : List Reading → List ℕ
listing_of rs = joined (map reading_row rs) ++ last_row_text (zeros_in (map row_number rs)) (others_in (map row_number rs))

-- what is asked at each reading: these editions, this layout, and all the work that a stretch takes
abbrev pub all_asked : ℕ → Layout → Asked
all_asked ed l = record { editions = ed; allowed = all_work; layout = l }

abbrev pub judged_for : Told → ℕ → List ℕ → Judged
judged_for t ed s = judged_within t (all_asked ed t.layout) s

-- the listing of a stream, from its start
abbrev pub listing : Told → ℕ → List ℕ → List ℕ
listing t ed s = listing_of (readings (judged_for t ed) s 0)
