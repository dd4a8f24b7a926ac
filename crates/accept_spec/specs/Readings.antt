-- Readings by two ways to judge that agree on the stretches of the stream, that a reading is what its stretch is found to be, and that counting needs no
-- judging. Assumes nothing.
use Rattle.std.specs.Prelude.{◌≡◌, Bool, cond, length}
use Rattle.std.proofs.Math.Path.{refl}
use Rattle.std.proofs.Common.{sym, ap, ◌∙◌}
use Rattle.std.proofs.Math.Bool.{true, false}
use mathlib.Core.List.{List, [], ◌∷◌}
use Prim.Native.Nat.{ℕ, zero, suc}
use Rattle.std.proofs.lemmas.List.{length-map}
use Rattle.read_stretch.specs.Stretches.{bytes_at, next_span, next_stretch}
use Rattle.read_spec.specs.Judged.{Judged, shape}
use Rattle.read_readings.specs.Readings.{Reading, reading, ends, readings_in, readings}
use Rattle.read_readings.specs.Counting.{place_of}
use Rattle.read_readings.proofs.Counting.{places-alike}
use Rattle.accept_spec.specs.Accepting.{stretches_in}

module _ (j k : List ℕ → Judged) (s : List ℕ) (alike : (from : ℕ) → j (next_stretch s from) ≡ k (next_stretch s from)) where
  by_in : (n from : ℕ) → readings_in j s n from ≡ readings_in k s n from
  unfolding readings_in
  by_in zero from = refl
  by_in (suc n) from = rw (alike from, by_in n (next_span s from).closing)

  pub readings-by : (from : ℕ) → readings j s from ≡ readings k s from
  unfolding readings
  readings-by from = by_in (length s) from

-- each reading is what the bytes at its places are found to be
abbrev pub JudgedAt : (List ℕ → Judged) → List ℕ → List Reading → Type 0
JudgedAt judge s [] = Unit {0}
JudgedAt judge s (r ∷ l) = (r.judged ≡ judge (bytes_at s r.place)) × JudgedAt judge s l

module _ (judge : List ℕ → Judged) (s : List ℕ) where
  judged-in : (n from : ℕ) → JudgedAt judge s (readings_in judge s n from)
  unfolding readings_in next_stretch
  judged-in zero from = tt
  judged-in (suc n) from = go (ends (next_span s from)) (judged-in n (next_span s from).closing)
    where
      go : (t : Bool) → JudgedAt judge s (readings_in judge s n (next_span s from).closing)
          → JudgedAt judge s (cond t [] (reading (next_span s from) (judge (bytes_at s (next_span s from))) ∷ readings_in judge s n (next_span s from).closing))
      go true h = tt
      go false h = (refl, h)

  pub readings-judged : (from : ℕ) → JudgedAt judge s (readings judge s from)
  unfolding readings
  readings-judged from = judged-in (length s) from

  pub counted : length (readings judge s 0) ≡ stretches_in s
  counted =
      sym (length-map (readings judge s 0) place_of) ∙ ap length (places-alike judge (λ (b : List ℕ). shape) s 0)
      ∙ length-map (readings (λ (b : List ℕ). shape) s 0) place_of
