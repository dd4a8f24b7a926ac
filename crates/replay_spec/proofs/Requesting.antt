-- A request by the next stretch: its line, or the request from its closing mark; nothing at the stream's end. Assumes nothing.
use Rattle.std.specs.Prelude.{◌≡◌, Bool, ℕ, ◌≤◌, length}
use Rattle.std.proofs.Math.Path.{refl, ap}
use Rattle.std.proofs.Common.{◌∙◌, eq-eqb}
use Rattle.std.proofs.Math.Bool.{true, false, cond}
use mathlib.Core.List.{List, [], ◌∷◌}
use Rattle.read_stretch.specs.declared.Span.{Span}
use Rattle.read_stretch.specs.Stretches.{next_span, next_stretch}
use Rattle.read_stretch.specs.Steps.{next-end}
use Rattle.read_spec.specs.Judged.{Judged}
use Rattle.read_readings.specs.Readings.{reading, ends, readings, readings-step}
use Rattle.replay_spec.specs.Press.{nothing, given_by, met, or_else, first_line, request}

module _ (judge : List ℕ → Judged) (s : List ℕ) (at : ℕ) where
  abbrev here : Span
  here = next_span s at

  -- a request by the next stretch
  pub request-step : request judge s at
      ≡ cond (ends here) (met nothing at) (or_else (given_by (judge (next_stretch s at))) here.closing (request judge s here.closing))
  unfolding request
  request-step = ap (first_line at) (readings-step judge s at) ∙ by-test (ends here)
    where
      by-test : (b : Bool) → first_line at (cond b [] (reading here (judge (next_stretch s at)) ∷ readings judge s here.closing))
          ≡ cond b (met nothing at) (or_else (given_by (judge (next_stretch s at))) here.closing (first_line here.closing (readings judge s here.closing)))
      by-test true = refl
      by-test false = refl

  -- nothing is behind the stream's end
  pub request-end : length s ≤ at → request judge s at ≡ met nothing at
  request-end h = request-step ∙ rw (next-end s at h, eq-eqb (length s) (length s) refl)
