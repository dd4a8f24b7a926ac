-- The places of the readings do not depend on how stretches are judged: counting needs no judging. Assumes nothing.
use Rattle.std.specs.Prelude.{◌≡◌, Bool, true, false, cond, List, [], ◌∷◌, map, length}
use Rattle.std.proofs.Math.Path.{refl}
use Rattle.std.proofs.Common.{ap}
use Prim.Native.Nat.{ℕ, zero, suc}
use Rattle.read_stretch.specs.declared.Span.{Span}
use Rattle.read_stretch.specs.Stretches.{next_span, next_stretch}
use Rattle.read_spec.specs.Judged.{Judged}
use Rattle.read_readings.specs.Readings.{Reading, reading, ends, readings_in, readings}
use Rattle.read_readings.specs.Counting.{place_of}

module _ (j k : List ℕ → Judged) (s : List ℕ) where
  both : (t : Bool) (p : Span) (x y : Judged) (l m : List Reading) → map place_of l ≡ map place_of m
      → map place_of (cond t [] (reading p x ∷ l)) ≡ map place_of (cond t [] (reading p y ∷ m))
  both true p x y l m e = refl
  both false p x y l m e = ap (λ (z : List Span). p ∷ z) e

  places-in : (n from : ℕ) → map place_of (readings_in j s n from) ≡ map place_of (readings_in k s n from)
  unfolding readings_in
  places-in zero from = refl
  places-in (suc n) from =
      both (ends (next_span s from)) (next_span s from) (j (next_stretch s from)) (k (next_stretch s from)) (readings_in j s n (next_span s from).closing)
      (readings_in k s n (next_span s from).closing) (places-in n (next_span s from).closing)

  pub places-alike : (from : ℕ) → map place_of (readings j s from) ≡ map place_of (readings k s from)
  unfolding readings
  places-alike from = places-in (length s) from
