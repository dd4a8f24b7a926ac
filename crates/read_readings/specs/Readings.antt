-- The readings of a stream from a place to its end, over any way to judge a stretch's bytes: each next one starts at the closing mark
-- of the one before. Assumes nothing.
use Rattle.std.specs.Prelude.{◌≡◌, Bool, eqb, length, drop}
use Rattle.std.proofs.Math.Path.{refl, sym, ap}
use Rattle.std.proofs.Common.{ap₂, ◌∙◌, drop-drop, eqb-true, eq-eqb, ne_eqb}
use Rattle.std.proofs.Math.Bool.{true, false, cond}
use mathlib.Core.List.{List, [], ◌∷◌, map}
use Prim.Native.Nat.{ℕ, zero, suc, ◌+◌, ◌≤◌, ◌<◌}
use native.Mathlib.Omega.{arith}
use Rattle.std.proofs.Math.ListN.{length-drop}
use Rattle.std.proofs.lemmas.Bool.{eqb-false}
use Rattle.read_stretch.specs.declared.Span.{Span}
use Rattle.read_stretch.specs.Stretches.{span, next_span, next_stretch}
use Rattle.read_stretch.specs.Places.{Found}
use Rattle.read_stretch.proofs.Places.{next-found, next-within}
use Rattle.read_stretch.specs.Shift.{moved}
use Rattle.read_stretch.proofs.Shift.{next-moved, stretch-moved}
use Rattle.read_spec.specs.Judged.{Judged}

-- one reading: where the stretch stands, and what it is found to be
pub record Reading : Type 0 where
  pub place : Span
  pub judged : Judged

abbrev pub reading : Span → Judged → Reading
reading p j = record { place = p; judged = j }

-- no stretch is found: the end of the stream
abbrev pub ends : Span → Bool
ends p = eqb p.first p.closing

module _ (judge : List ℕ → Judged) (s : List ℕ) where
  -- at most n readings
  unfoldable pub readings_in : ℕ → ℕ → List Reading
  readings_in zero from = []
  readings_in (suc n) from =
      cond (ends (next_span s from)) []
      (reading (next_span s from) (judge (next_stretch s from)) ∷ readings_in n (next_span s from).closing)

  -- there are fewer than the stream has bytes
  unfoldable pub readings : ℕ → List Reading
  readings from = readings_in (length s) from

  by : {A : Type 0} (t : Bool) (x y y' : A) → (t ≡ false → y ≡ y') → cond t x y ≡ cond t x y'
  by true x y y' f = refl
  by false x y y' f = f refl

  -- a reading moves on within the stream
  moves : (from : ℕ) → ends (next_span s from) ≡ false → (from < (next_span s from).closing) × ((next_span s from).closing < length s)
  moves from e =
      let f : Found s from (next_span s from) =
      next-found s from (eqb-false (next_span s from).first (next_span s from).closing e) in
      (omega (arith, f.later, f.stretch.some), f.stretch.ends)

  -- where nothing is left there is no reading
  at-end : (n from : ℕ) → length s ≤ from → readings_in n from ≡ []
  unfolding readings_in
  at-end zero from h = refl
  at-end (suc n) from h =
      none (ends (next_span s from)) _ (λ e. absurd (omega (arith, (moves from e).0, (moves from e).1)))
    where
      none : (t : Bool) (l : List Reading) → (t ≡ false → ⊥) → cond t [] l ≡ []
      none true l n = refl
      none false l n = absurd (n refl)

  -- as many as are left are enough: more change nothing
  enough : (n m from : ℕ) → length s ≤ from + n → length s ≤ from + m → readings_in n from ≡ readings_in m from
  unfolding readings_in
  enough zero m from h g = sym (at-end m from (omega arith))
  enough (suc n) zero from h g = at-end (suc n) from (omega arith)
  enough (suc n) (suc m) from h g =
      by (ends (next_span s from)) [] _ _
      (λ e. ap (λ (l : List Reading). reading (next_span s from) (judge (next_stretch s from)) ∷ l)
      (enough n m (next_span s from).closing (omega (arith, (moves from e).0)) (omega (arith, (moves from e).0))))

  -- the readings from a place: none at the end, else one, and those from its closing mark
  pub readings-step : (from : ℕ) → readings from
      ≡ cond (ends (next_span s from)) []
      (reading (next_span s from) (judge (next_stretch s from)) ∷ readings (next_span s from).closing)
  unfolding readings readings_in
  readings-step from = enough (length s) (suc (length s)) from (omega arith) (omega arith)

-- a reading d places further on
abbrev pub moved_reading : ℕ → Reading → Reading
moved_reading d r = reading (moved d r.place) r.judged

module _ (s : List ℕ) where
  -- the next stretch counted from a place before it
  further : (d from : ℕ) → d + from ≤ length s → next_span s (d + from) ≡ moved d (next_span (drop d s) from)
  further d from h =
      next-moved s (d + from) h
      ∙ (rw (← drop-drop from d s) (ap₂ span (omega arith) (omega arith)))
      ∙ ap (moved d) (sym (next-moved (drop d s) from (omega (arith, length-drop d s))))

  further-bytes : (d from : ℕ) → d + from ≤ length s → next_stretch s (d + from) ≡ next_stretch (drop d s) from
  further-bytes d from h =
      stretch-moved s (d + from) h
      ∙ ap (λ (l : List ℕ). next_stretch l 0) (sym (drop-drop from d s))
      ∙ sym (stretch-moved (drop d s) from (omega (arith, length-drop d s)))

-- places as far apart as before
pub eqb-moved : (a e d : ℕ) → eqb (a + d) (e + d) ≡ eqb a e
eqb-moved a e d = go (eqb a e) refl
  where
    go : (t : Bool) → eqb a e ≡ t → eqb (a + d) (e + d) ≡ t
    go true h = eq-eqb (a + d) (e + d) (ap (λ (k : ℕ). k + d) (eqb-true a e h))
    go false h = ne_eqb (a + d) (e + d) (λ q. eqb-false a e h (omega (arith, q)))

map-cond : (f : Reading → Reading) (t : Bool) (l : List Reading) → map f (cond t [] l) ≡ cond t [] (map f l)
map-cond f true l = refl
map-cond f false l = refl

module _ (judge : List ℕ → Judged) (s : List ℕ) (d : ℕ) where
  moved_in : (n from : ℕ) → d + from ≤ length s
      → readings_in judge s n (d + from) ≡ map (moved_reading d) (readings_in judge (drop d s) n from)
  unfolding readings_in
  moved_in zero from h = refl
  moved_in (suc n) from h =
      let p = next_span (drop d s) from in
      let w = next-within (drop d s) from in
      let c : p.closing + d ≡ d + p.closing = omega arith in
      let r : readings_in judge s n (p.closing + d) ≡ map (moved_reading d) (readings_in judge (drop d s) n p.closing) =
      ap (readings_in judge s n) c ∙ moved_in n p.closing (omega (arith, w.inside, length-drop d s)) in
      rw (further s d from h, further-bytes s d from h, eqb-moved p.first p.closing d, r)
      (sym (map-cond (moved_reading d) (ends p) (reading p (judge (next_stretch (drop d s) from)) ∷ readings_in judge (drop d s) n p.closing)))

  -- the readings from a place are those of the rest of the stream, that many places further on
  pub readings-moved : d ≤ length s → readings judge s d ≡ map (moved_reading d) (readings judge (drop d s) 0)
  unfolding readings
  readings-moved h =
      let z : d ≡ d + 0 = omega arith in
      ap (readings_in judge s (length s)) z
      ∙ moved_in (length s) 0 (omega arith)
      ∙ ap (map (moved_reading d)) (enough judge (drop d s) (length s) (length (drop d s)) 0 (omega (arith, length-drop d s)) (omega arith))
