-- Place and number of a reading come back from its entry, and the entries of a stream go as its readings do: none where no stretch is found, else
-- that of the next stretch and those from its closing mark. Assumes nothing.
use Rattle.std.specs.Prelude.{◌≡◌, ℕ, ◌<◌}
use Rattle.std.proofs.Math.Path.{ap}
use Rattle.std.proofs.Common.{◌∙◌, arith, eq-eqb, ne_eqb}
use mathlib.Core.List.{List, [], ◌∷◌, map}
use Rattle.read_stretch.specs.Stretches.{next_span, next_stretch}
use Rattle.read_spec.specs.Judged.{Judged, shape, stuffing, font, work, seal, unlisted, trade, layout, line, number_in}
use Rattle.read_readings.specs.Readings.{Reading, reading, readings, readings-step}
use Rattle.index_spec.specs.Entries.{entry_of, entry_place, entry_number, recorded, entries_from}

-- a stretch's number is below 256
pub number-below : (j : Judged) → number_in j < 256
number-below shape = omega arith
number-below stuffing = omega arith
number-below font = omega arith
number-below work = omega arith
number-below (seal n) = omega arith
number-below (unlisted n) = omega arith
number-below (trade n) = omega arith
number-below (layout n) = omega arith
number-below (line k l n) = omega arith

pub place-back : (p n : ℕ) → n < 256 → entry_place (entry_of p n) ≡ p
place-back p n h = omega arith

pub number-back : (p n : ℕ) → n < 256 → entry_number (entry_of p n) ≡ n
number-back p n h = omega arith

pub recorded-place : (r : Reading) → entry_place (recorded r) ≡ r.place.first
recorded-place r = place-back r.place.first (number_in r.judged) (number-below r.judged)

pub recorded-number : (r : Reading) → entry_number (recorded r) ≡ number_in r.judged
recorded-number r = number-back r.place.first (number_in r.judged) (number-below r.judged)

module _ (judge : List ℕ → Judged) (s : List ℕ) (from : ℕ) where
  -- no stretch is found
  pub entries_none : (next_span s from).first ≡ (next_span s from).closing → entries_from judge s from ≡ []
  unfolding entries_from
  entries_none e =
      let none : readings judge s from ≡ [] = readings-step judge s from ∙ rw (eq-eqb (next_span s from).first (next_span s from).closing e) in
      ap (map recorded) none

  -- one is found
  pub entries-one : ((next_span s from).first ≡ (next_span s from).closing → ⊥) → entries_from judge s from
      ≡ entry_of (next_span s from).first (number_in (judge (next_stretch s from))) ∷ entries_from judge s (next_span s from).closing
  unfolding entries_from
  entries-one d =
      let one : readings judge s from ≡ reading (next_span s from) (judge (next_stretch s from)) ∷ readings judge s (next_span s from).closing =
      readings-step judge s from ∙ rw (ne_eqb (next_span s from).first (next_span s from).closing d) in
      ap (map recorded) one
