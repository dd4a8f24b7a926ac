-- Whether a stretch is left of a stream from a place on. Assumes nothing.
use mathlib.Core.Path.{◌≡◌, ap, ◌∙◌}
use mathlib.Core.List.{List, [], ◌∷◌}
use Prim.Native.Nat.{ℕ, ◌≤◌, ◌<◌}
use native.Mathlib.Omega.{arith}
use lib.ListN.{length}
use borrow.Author.Tests.{eq-eqb}
use Rattle.read_stretch.specs.declared.Span.{Span}
use Rattle.read_stretch.specs.Stretches.{next_span, next_stretch}
use Rattle.read_stretch.specs.Places.{Found}
use Rattle.read_stretch.proofs.Places.{next-found, next-none}
use Rattle.read_spec.specs.Judged.{Judged}
use Rattle.read_readings.specs.Readings.{reading, readings, readings-step}
use Rattle.read_readings.proofs.Joining.{found-step}

module _ (judge : List ℕ → Judged) (s : List ℕ) (at : ℕ) where
  -- equal places: nothing is left
  pub none_left : (p : Span) → p ≡ next_span s at → p.first ≡ p.closing → readings judge s at ≡ []
  none_left p e q = readings-step judge s at ∙ rw (← e, eq-eqb p.first p.closing q)

  -- nor at the stream's end
  pub none-behind : length s ≤ at → readings judge s at ≡ []
  none-behind h =
      let n = next-none s at (λ b e k x. omega (arith, k, x.some, x.ends)) in
      readings-step judge s at ∙ rw (n, eq-eqb (length s) (length s) (omega arith))

  -- other places: a stretch, and what is left behind it
  pub one_left : (p : Span) → p ≡ next_span s at → (p.first ≡ p.closing → ⊥)
      → Found s at p × (readings judge s at ≡ reading p (judge (next_stretch s at)) ∷ readings judge s p.closing)
  one_left p e d =
      let f : Found s at p = rw e (next-found s at (λ q. d (rw e q))) in
      (f, found-step judge s at (rw (← e) f) ∙ rw (← e))

  -- where something is left, the places differ
  pub some_left : (n : ℕ) → length (readings judge s at) ≡ n → 0 < n → (p : Span) → p ≡ next_span s at → p.first ≡ p.closing → ⊥
  some_left n l h p e q = omega (arith, l, h, ap length (none_left p e q))
