-- How many stretches stand in a stream from a place on: as many as it has readings from there, and how they are judged makes no difference
-- (Alike.antt beside this). Assumes nothing: these are definitions.
use Rattle.std.specs.Prelude.{List, ℕ, length}
use Rattle.read_spec.specs.Judged.{Judged, shape}
use Rattle.read_readings.specs.Readings.{readings}

-- no stretch is judged
abbrev pub unjudged : List ℕ → Judged
unjudged b = shape

unfoldable pub stretches_from : List ℕ → ℕ → ℕ
stretches_from s from = length (readings unjudged s from)
