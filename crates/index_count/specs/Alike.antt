-- Counting goes as reading does, and needs no judging. Assumes nothing.
use Rattle.std.specs.Prelude.{◌≡◌, ℕ, suc, ◌≤◌}
use Rattle.std.proofs.Common.{sym, ◌∙◌, eq-eqb, ne_eqb}
use Rattle.std.proofs.Math.Path.{ap}
use mathlib.Core.List.{List, [], ◌∷◌}
use Rattle.std.proofs.Math.ListN.{length}
use Rattle.std.proofs.lemmas.List.{length-map}
use Rattle.read_stretch.specs.Stretches.{next_span, next_stretch}
use Rattle.read_stretch.specs.Steps.{next-end}
use Rattle.read_spec.specs.Judged.{Judged}
use Rattle.read_readings.specs.Readings.{reading, readings, readings-step}
use Rattle.read_readings.specs.Counting.{place_of}
use Rattle.read_readings.proofs.Counting.{places-alike}
use Rattle.index_count.specs.Counted.{unjudged, stretches_from}

module _ (s : List ℕ) where
  pub none-counted : (from : ℕ) → (next_span s from).first ≡ (next_span s from).closing → stretches_from s from ≡ 0
  unfolding stretches_from
  none-counted from e =
      let none : readings unjudged s from ≡ [] = readings-step unjudged s from ∙ rw (eq-eqb (next_span s from).first (next_span s from).closing e) in
      ap length none

  pub one-counted : (from : ℕ) → ((next_span s from).first ≡ (next_span s from).closing → ⊥) → stretches_from s from
      ≡ suc (stretches_from s (next_span s from).closing)
  unfolding stretches_from
  one-counted from d =
      let one : readings unjudged s from ≡ reading (next_span s from) (unjudged (next_stretch s from)) ∷ readings unjudged s (next_span s from).closing =
      readings-step unjudged s from ∙ rw (ne_eqb (next_span s from).first (next_span s from).closing d) in
      ap length one

  pub end-counted : (from : ℕ) → length s ≤ from → stretches_from s from ≡ 0
  end-counted from h = none-counted from (rw (next-end s from h))

-- however stretches are judged, there are as many
pub counted-alike : (judge : List ℕ → Judged) (s : List ℕ) (from : ℕ) → length (readings judge s from) ≡ stretches_from s from
unfolding stretches_from
counted-alike judge s from =
    sym (length-map (readings judge s from) place_of) ∙ ap length (places-alike judge unjudged s from) ∙ length-map (readings unjudged s from) place_of
