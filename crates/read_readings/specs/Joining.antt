-- The buyer's demand 3, first half, for a reader that starts before the mark: the readings from an earlier place come to the mark, so
-- those behind it are the same, and no stretch is passed over. Over any way to judge a stretch's bytes. Assumes nothing.
use Rattle.std.specs.Prelude.{◌≡◌, ℕ, zero, suc, ◌+◌, ◌-◌, ◌≤◌, ◌<◌, drop}
use Rattle.std.proofs.Math.Path.{sym, ap}
use Rattle.std.proofs.Common.{◌∙◌, arith}
use Rattle.std.proofs.Math.Bool.{false, cond}
use mathlib.Core.List.{List, [], ◌∷◌, ◌++◌, map}
use Rattle.std.proofs.Math.Dec.{eqb}
use borrow.Author.Tests.{ne_eqb}
use Rattle.read_stretch.specs.declared.Span.{Span}
use Rattle.read_stretch.specs.Stretches.{span, bytes_at, next_span, next_stretch}
use Rattle.read_stretch.specs.Meaning.{Stretch}
use Rattle.read_stretch.specs.Places.{Found}
use Rattle.read_stretch.proofs.Places.{stretch-next}
use Rattle.read_spec.specs.Judged.{Judged}
use Rattle.read_readings.specs.Readings.{Reading, reading, ends, readings, readings-step}
use Rattle.read_readings.specs.Resync.{from_place, Mark, resync}
use Rattle.read_readings.specs.Reaching.{UpTo, closes, behind, up_to}

-- every reading of a list closes at place i or before it
abbrev pub ClosedBy : ℕ → List Reading → Type 0
ClosedBy i [] = Unit {0}
ClosedBy i (r ∷ l) = (r.place.closing ≤ i) × ClosedBy i l

-- the readings from a place are some that close at place i or before it, and then those from place i
abbrev pub Joins : (List ℕ → Judged) → List ℕ → ℕ → ℕ → Type 0
Joins judge s from i = (before : List Reading) × (readings judge s from ≡ before ++ readings judge s i) × ClosedBy i before
