-- The last place recorded: that of the last reading written behind the table's entries, within the stream, and no stretch is found from there.
-- Assumes nothing.
use Rattle.std.specs.Prelude.{◌≡◌, refl, List, [], ◌∷◌, ◌++◌, map, ℕ, zero, suc, ◌+◌, ◌≤◌, ◌<◌, length, set}
use Rattle.std.proofs.Common.{ap, ◌∙◌, append-nil, arith, length-append, length-set, get_or-set_same, eq-eqb}
use Rattle.std.proofs.lemmas.List.Edits.{sets}
use Rattle.read_stretch.specs.Stretches.{next_span}
use Rattle.read_stretch.specs.Places.{Found, Next, nothing, something}
use Rattle.read_stretch.proofs.Places.{next-cases}
use Rattle.read_spec.specs.Judged.{Judged}
use Rattle.read_readings.specs.Readings.{Reading, readings, readings-step}
use Rattle.read_readings.proofs.Joining.{found-step}
use Rattle.read_readings.specs.Growing.{last_first}
use Rattle.read_readings.proofs.Growing.{grown}
use Rattle.index_spec.specs.Entries.{entry_place, recorded}
use Rattle.index_spec.specs.Updating.{last_place}
use Rattle.index_spec.specs.Recorded.{recorded-place}

here : (r : Reading) (o : List ℕ) (count : ℕ) → count < length o → last_place (set o count (recorded r)) (suc count) ≡ r.place.first
unfolding last_place
here r o count h = ap entry_place (get_or-set_same o count (recorded r) 0 h) ∙ recorded-place r

-- of a table behind whose entries readings are recorded
pub last-sets : (l : List Reading) (o : List ℕ) (count : ℕ) → count + length l ≤ length o
    → last_place (sets o count (map recorded l)) (count + length (map recorded l)) ≡ last_first (last_place o count) l
last-sets [] o count h = let e : count + 0 ≡ count = omega arith in ap (last_place o) e
last-sets (r ∷ l) o count h =
    let e : count + suc (length (map recorded l)) ≡ suc count + length (map recorded l) = omega arith in
    let there : last_place (set o count (recorded r)) (suc count) ≡ r.place.first = here r o count (omega arith) in
    ap (last_place (sets (set o count (recorded r)) (suc count) (map recorded l))) e
    ∙ last-sets l (set o count (recorded r)) (suc count) (omega (arith, length-set o count (recorded r)))
    ∙ ap (λ (d : ℕ). last_first d l) there

module _ (judge : List ℕ → Judged) (s : List ℕ) where
  inside_on : (from d : ℕ) → d ≤ length s → Next s from (next_span s from)
      → (Found s from (next_span s from) → last_first (next_span s from).first (readings judge s (next_span s from).closing) ≤ length s)
      → last_first d (readings judge s from) ≤ length s
  inside_on from d h (nothing e n) k =
      let none : readings judge s from ≡ [] = readings-step judge s from ∙ rw (e, eq-eqb (length s) (length s) refl) in rw none h
  inside_on from d h (something f) k = rw (found-step judge s from f) (k f)

  inside-in : (n from d : ℕ) → length s ≤ from + n → d ≤ length s → last_first d (readings judge s from) ≤ length s
  inside-in zero from d g h =
      inside_on from d h (next-cases s from) (λ f. absurd (omega (arith, f.later, f.stretch.some, f.stretch.ends)))
  inside-in (suc n) from d g h =
      inside_on from d h (next-cases s from)
      (λ f. inside-in n (next_span s from).closing (next_span s from).first (omega (arith, f.later, f.stretch.some))
      (omega (arith, f.stretch.some, f.stretch.ends)))

  -- within the stream
  pub last-inside : (from : ℕ) → from ≤ length s → last_first from (readings judge s from) ≤ length s
  last-inside from h = inside-in (length s) from from (omega arith) h

  -- nothing is left to read from there
  pub last_none : (from : ℕ) → readings judge s (last_first from (readings judge s from)) ≡ []
  last_none from = nothing-more (readings judge s from) (readings judge s (last_first from (readings judge s from))) whole
    where
      whole : readings judge s from ≡ readings judge s from ++ readings judge s (last_first from (readings judge s from))
      whole = rw (append-nil s) at (grown judge s [] from).from_first

      nothing-more : (x y : List Reading) → x ≡ x ++ y → y ≡ []
      nothing-more x [] e = refl
      nothing-more x (r ∷ y) e = absurd (omega (arith, ap length e, length-append x (r ∷ y)))

-- the last of two lists of readings
pub last-append : (d : ℕ) (l m : List Reading) → last_first (last_first d l) m ≡ last_first d (l ++ m)
last-append d [] m = refl
last-append d (r ∷ l) m = last-append r.place.first l m
