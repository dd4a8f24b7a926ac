-- What is read from a place starts behind that place. That every stretch that starts behind it is read is in Joining.antt (`stretch-from`).
-- Over any way to judge a stretch's bytes. Assumes nothing.
use Rattle.std.specs.Prelude.{◌≡◌, refl, List, [], ◌∷◌, ℕ, zero, suc, ◌+◌, ◌≤◌, ◌<◌, length}
use Rattle.std.proofs.Common.{◌∙◌, arith, eq-eqb}
use Rattle.read_stretch.specs.Stretches.{next_span}
use Rattle.read_stretch.specs.Places.{Found, Next, nothing, something}
use Rattle.read_stretch.proofs.Places.{next-cases}
use Rattle.read_spec.specs.Judged.{Judged}
use Rattle.read_readings.specs.Readings.{Reading, readings, readings-step}
use Rattle.read_readings.proofs.Joining.{found-step}
use Rattle.read_readings.specs.Behind.{Behind}

behind-less : (l : List Reading) (i k : ℕ) → i ≤ k → Behind k l → Behind i l
behind-less [] i k h b = tt
behind-less (r ∷ l) i k h b = (omega (arith, b.0), behind-less l i k h b.1)

module _ (judge : List ℕ → Judged) (s : List ℕ) where
  behind-on : (from : ℕ) → Next s from (next_span s from)
      → (Found s from (next_span s from) → Behind (next_span s from).closing (readings judge s (next_span s from).closing))
      → Behind from (readings judge s from)
  behind-on from (nothing e n) k =
      let none : readings judge s from ≡ [] = readings-step judge s from ∙ rw (e, eq-eqb (length s) (length s) refl) in rw none tt
  behind-on from (something f) k =
      rw (found-step judge s from f)
      (f.later, behind-less (readings judge s (next_span s from).closing) from (next_span s from).closing (omega (arith, f.later, f.stretch.some)) (k f))

  behind-in : (n from : ℕ) → length s ≤ from + n → Behind from (readings judge s from)
  behind-in zero from h =
      behind-on from (next-cases s from) (λ f. absurd (omega (arith, f.later, f.stretch.some, f.stretch.ends)))
  behind-in (suc n) from h =
      behind-on from (next-cases s from) (λ f. behind-in n (next_span s from).closing (omega (arith, f.later, f.stretch.some)))

  pub all-behind : (from : ℕ) → Behind from (readings judge s from)
  all-behind from = behind-in (length s) from (omega arith)
