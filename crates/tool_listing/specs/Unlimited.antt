-- No ceiling shows in the listing: each stretch is allowed all the work it takes, so that of a stream of bytes the listing is that of what each stretch is
-- judged to be, and no row is a 15 (document 01: a call over many stretches allows each all its work). Assumes nothing.
use Rattle.std.specs.Prelude.{◌≡◌, ℕ, zero, suc, ◌+◌, ◌-◌, ◌≤◌, Bool, true, false, cond, List, [], ◌∷◌, length, drop, refl}
use Rattle.std.proofs.Common.{sym, ap, ap₂, ◌∙◌, le_refl, arith}
use Rattle.base_lists.specs.Below.{Below, below-take, below-drop}
use Rattle.read_stretch.specs.Stretches.{next_span, next_stretch}
use Rattle.frame_spec.specs.Told.{Told}
use Rattle.read_spec.specs.Judged.{Judged}
use Rattle.read_spec.specs.Judging.{judge}
use Rattle.read_spec.specs.Sizes.{Sizes}
use Rattle.read_spec.specs.Ceiling.{all_work}
use Rattle.read_spec.proofs.Allowance.{all-allowed}
use Rattle.read_readings.specs.Readings.{Reading, reading, ends, readings, readings-step}
use Rattle.read_call.specs.Answers.{judged_within}
use Rattle.tool_listing.specs.Listing.{listing_of, judged_for, listing}
use Rattle.tool_listing.specs.Joining.{moves}

-- two ways to judge that agree on every stretch of a stream give the same readings
module _ (f g : List ℕ → Judged) (s : List ℕ) (same : (from : ℕ) → f (next_stretch s from) ≡ g (next_stretch s from)) where
  alike-on : (from : ℕ) → (ends (next_span s from) ≡ false → readings f s (next_span s from).closing ≡ readings g s (next_span s from).closing)
      → readings f s from ≡ readings g s from
  alike-on from on = readings-step f s from ∙ by (ends (next_span s from)) refl ∙ sym (readings-step g s from)
    where
      by : (b : Bool) → ends (next_span s from) ≡ b
          → cond b [] (reading (next_span s from) (f (next_stretch s from)) ∷ readings f s (next_span s from).closing)
          ≡ cond b [] (reading (next_span s from) (g (next_stretch s from)) ∷ readings g s (next_span s from).closing)
      by true e = refl
      by false e = ap₂ (λ (j : Judged) (l : List Reading). reading (next_span s from) j ∷ l) (same from) (on e)

  alike-in : (n from : ℕ) → length s ≤ from + n → readings f s from ≡ readings g s from
  alike-in zero from h = alike-on from (λ e. absurd (omega (arith, h, (moves s from e).0, (moves s from e).1)))
  alike-in (suc n) from h = alike-on from (λ e. alike-in n (next_span s from).closing (omega (arith, h, (moves s from e).0)))

stretch-bytes : (s : List ℕ) → Below 256 s → (from : ℕ) → Below 256 (next_stretch s from)
unfolding next_stretch
stretch-bytes s b from =
    below-take 256 ((next_span s from).closing - (next_span s from).first) (drop (next_span s from).first s) (below-drop 256 (next_span s from).first s b)

module _ (t : Told) (z : Sizes t) (ed : ℕ) (s : List ℕ) (b : Below 256 s) where
  no-ceiling : (from : ℕ) → judged_for t ed (next_stretch s from) ≡ judge t ed (next_stretch s from)
  unfolding judged_within
  no-ceiling from = all-allowed t z ed (next_stretch s from) (stretch-bytes s b from) all_work (le_refl all_work)

  pub listing-unlimited : listing t ed s ≡ listing_of (readings (judge t ed) s 0)
  listing-unlimited = ap listing_of (alike-in (judged_for t ed) (judge t ed) s no-ceiling (length s) 0 (omega arith))
