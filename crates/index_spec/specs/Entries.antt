-- An entry of an index (order W10): the place of a stretch's first byte and the stretch's number, in one number of 32 bits; and the entries of
-- a stream from a place on, over any way to judge a stretch's bytes. Assumes nothing: these are definitions.
use Rattle.std.specs.Prelude.{List, map, ℕ, ◌+◌, ◌*◌, ◌/◌, ◌%◌}
use Rattle.read_spec.specs.Judged.{Judged, number_in}
use Rattle.read_readings.specs.Readings.{Reading, readings}

-- the most entries that a table keeps (order W10)
abbrev pub most_entries : ℕ
most_entries = 512

-- place times 256 plus number; any number is an entry
abbrev pub entry_of : ℕ → ℕ → ℕ
entry_of place number = place * 256 + number

abbrev pub entry_place : ℕ → ℕ
entry_place e = e / 256

abbrev pub entry_number : ℕ → ℕ
entry_number e = e % 256

-- what is recorded of a reading
abbrev pub recorded : Reading → ℕ
recorded r = entry_of r.place.first (number_in r.judged)

-- a stream's readings from a place on, refused stretches too, as entries
unfoldable pub entries_from : (List ℕ → Judged) → List ℕ → ℕ → List ℕ
entries_from judge s from = map recorded (readings judge s from)
