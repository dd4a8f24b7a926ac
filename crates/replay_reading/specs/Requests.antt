-- `request-as-read` (order W11), from the promise of `read` alone: a request gives what read calls from its place meet first, each from where the one before
-- closed, all the work allowed: a line, with its closing mark as the place; or at the end nothing, and the place is the closing mark of the last stretch
-- that these calls refused, unchanged where they refused none. Assumes nothing.
use Rattle.std.specs.Prelude.{◌≡◌, refl, true, false, List, [], ◌∷◌, ℕ, ◌≤◌, length}
use Rattle.std.proofs.Common.{sym, ap, subst, ◌∙◌, arith, eq-eqb, ne_eqb}
use Rattle.base_lists.specs.Never.{never}
use Rattle.base_lists.specs.Below.{Below}
use Rattle.line_spec.specs.Lines.{longest}
use Rattle.read_stretch.specs.Stretches.{span, next_span, next_stretch}
use Rattle.read_stretch.specs.Places as places
use Rattle.read_stretch.specs.Places.{Next, nothing, something}
use Rattle.read_stretch.proofs.Places.{next-cases}
use Rattle.frame_spec.specs.Told.{told}
use Rattle.read_spec.specs.Judged.{Judged, shape, stuffing, font, work, seal, unlisted, trade, layout, line, number_in, line_in}
use Rattle.read_spec.specs.Sizes.{Sizes}
use Rattle.read_spec.specs.Ceiling.{all_work}
use Rattle.read_readings.specs.Readings.{reading}
use Rattle.read_call.specs.declared.Asked.{Asked}
use Rattle.read_call.specs.declared.Reading.{Reading}
use Rattle.read_call.specs.Answers.{longest_stream, judged_within}
use Rattle.demand_reading.specs.Promises.{Reads, Seen, seen_from, Run, none, next}
use Rattle.demand_joined.specs.Seeing.{seen_of, the_end, end_seen, stretch-seen}
use Rattle.replay_spec.specs.Press as press-of
use Rattle.replay_spec.specs.Press.{gives, given_by, Met, met, or_else, request}
use Rattle.replay_spec.proofs.Requesting.{request-step}

-- calls from a place until the first line or the end, and what they come to
pub data Until : ℕ → List Seen → Met → Type 0 where
  at-line : {at : ℕ} {v : Seen} → v.ended ≡ false → v.number ≡ 0 → Until at (v ∷ []) (met (gives v.line) v.closing)
  at-end : {at : ℕ} {v : Seen} → v.ended ≡ true → Until at (v ∷ []) (met press-of.nothing at)
  refused : {at : ℕ} {v : Seen} {rest : List Seen} {m : Met} → v.ended ≡ false → (v.number ≡ 0 → ⊥) → Until v.closing rest m → Until at (v ∷ rest) m

-- which of the three the first call is
pub data First (at : ℕ) (v : Seen) (rest : List Seen) (m : Met) : Type 0 where
  by-line : v.ended ≡ false → v.number ≡ 0 → m ≡ met (gives v.line) v.closing → First at v rest m
  by_end : v.ended ≡ true → m ≡ met press-of.nothing at → First at v rest m
  by-refusal : v.ended ≡ false → (v.number ≡ 0 → ⊥) → Until v.closing rest m → First at v rest m
