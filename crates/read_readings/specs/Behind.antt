-- What is read from a place starts behind that place. That every stretch that starts behind it is read is in Joining.antt (`stretch-from`).
-- Over any way to judge a stretch's bytes. Assumes nothing.
use Rattle.std.specs.Prelude.{◌≡◌, refl, List, [], ◌∷◌, ℕ, zero, suc, ◌+◌, ◌≤◌, ◌<◌, length}
use Rattle.std.proofs.Common.{◌∙◌, arith, eq-eqb}
use Rattle.read_stretch.specs.Stretches.{next_span}
use Rattle.read_stretch.specs.Places.{Found, Next, nothing, something}
use Rattle.read_stretch.proofs.Places.{next-cases}
use Rattle.read_spec.specs.Judged.{Judged}
use Rattle.read_readings.specs.Readings.{Reading, readings, readings-step}

-- every reading of a list starts behind place i
abbrev pub Behind : ℕ → List Reading → Type 0
Behind i [] = Unit {0}
Behind i (r ∷ l) = (i < r.place.first) × Behind i l
