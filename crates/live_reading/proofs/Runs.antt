-- The runs that `live-as-whole` speaks of: over every cutting there is one (`live-run`), and no two of them give anything else or end with other
-- numbers or another window (`live-run-single`). From the promise of a step alone. Assumes nothing.
use Rattle.std.specs.Prelude.{◌≡◌, refl, List, [], ◌∷◌, ◌++◌, ℕ, zero, suc, ◌+◌, ◌≤◌, ◌<◌, length, drop, replicate}
use Rattle.std.proofs.Common.{sym, ap₂, subst, ◌∙◌, arith, length-append, length-drop}
use Rattle.std.proofs.lemmas.List.{length-replicate}
use Rattle.frame_stuff_spec.specs.Stuffing.{longest_stretch}
use Rattle.line_spec.specs.Lines.{longest}
use Rattle.frame_spec.specs.Told.{told}
use Rattle.read_spec.specs.Sizes.{Sizes}
use Rattle.read_readings.specs.Readings.{Reading}
use Rattle.read_call.specs.declared.Asked.{Asked}
use Rattle.live_spec.specs.declared.Numbers.{Numbers}
use Rattle.live_spec.specs.Taking.{no_bytes}
use Rattle.live_spec.specs.Steps.{most_bytes, step_answer, step_window, step_line}
use Rattle.live_reading.specs.Promises.{Steps, Given, given_by, Run, over, rest, step, whole}
use Rattle.live_spec.specs.After.{After}
use Rattle.live_spec.proofs.After.{after_none}
use Rattle.live_spec.proofs.Pieces.{its, took_in}
use Rattle.live_reading.proofs.Moments.{stepped, after-step}
use Rattle.live_reading.proofs.Whole.{fewer, still-few}

-- a run of steps over pieces, from these numbers and this window, and what it gives
pub record LiveRun (key font : List ℕ) (asked : Asked) (n : Numbers) (w : List ℕ) (ps : List (List ℕ)) : Type 0 where
  pub given : List Given
  pub numbers : Numbers
  pub window : List ℕ
  pub run : Run key font asked n w ps given numbers window

-- a line buffer with room for a line
buffer : List ℕ
buffer = replicate longest 0

room : longest ≤ length buffer
unfolding buffer
room = omega (arith, length-replicate {A = ℕ} longest 0)

module _ (key font : List ℕ) (asked : Asked) (z : Sizes (told key font asked.layout)) where
  -- over so many bytes and pieces at most
  run_in : (k : ℕ) (ps : List (List ℕ)) {s : List ℕ} {n : Numbers} {w : List ℕ} {g : List Reading} → After (its (told key font asked.layout) asked) s n w g
      → length s + length (whole ps) ≤ most_bytes → length (whole ps) + length ps ≤ k → LiveRun key font asked n w ps
  run_in k [] {n = n} {w = w} a h e = record { given = []; numbers = n; window = w; run = over }
  run_in zero (p ∷ ps) a h e = absurd (omega (arith, e))
  run_in (suc k) ([] ∷ ps) a h e =
      let more = run_in k ps a h (omega (arith, e)) in
      record { given = more.given; numbers = more.numbers; window = more.window; run = rest more.run }
  run_in (suc k) ((b ∷ p) ∷ ps) {s} {n} {w} {g} a h e =
      let t = told key font asked.layout in
      let r = step_answer t asked n w (b ∷ p) buffer in
      let w' = step_window t asked n w (b ∷ p) buffer in
      let l' = step_line t asked n w (b ∷ p) buffer in
      let x : Steps key font asked n w (b ∷ p) buffer r w' l' = (refl, (refl, refl)) in
      let y = stepped key font asked z a (b ∷ p) buffer r w' l' (fewer s (b ∷ p) (whole ps) h) room x in
      let some : 0 < r.took = omega (arith, y.took-is, (took_in t asked (b ∷ p) a).some (omega arith)) in
      let more = run_in k (drop r.took (b ∷ p) ∷ ps) (after-step key font asked z a (b ∷ p) buffer r w' l' y) (still-few s (b ∷ p) (whole ps) r.took h)
      (omega (arith, e, some, length-append (drop r.took (b ∷ p)) (whole ps), length-append (b ∷ p) (whole ps), length-drop r.took (b ∷ p))) in
      record {
        given = given_by r l' ++ more.given;
        numbers = more.numbers;
        window = more.window;
        run = step (b ∷ p) buffer r w' l' (omega arith) room x more.run;
      }

  pub live-run : (w : List ℕ) → length w ≡ longest_stretch → (ps : List (List ℕ)) → length (whole ps) ≤ most_bytes → LiveRun key font asked no_bytes w ps
  live-run w h ps few =
      run_in (length (whole ps) + length ps) ps (after_none (its (told key font asked.layout) asked) w h) (omega (arith, few)) (omega arith)

  -- two runs are one
  pub record Same (g g' : List Given) (m m' : Numbers) (v v' : List ℕ) : Type 0 where
    pub given : g ≡ g'
    pub numbers : m ≡ m'
    pub window : v ≡ v'

  same_in : {ps : List (List ℕ)} {s : List ℕ} {n : Numbers} {w : List ℕ} {o : List Reading} → After (its (told key font asked.layout) asked) s n w o
      → length s + length (whole ps) ≤ most_bytes → {g g' : List Given} {m m' : Numbers} {v v' : List ℕ}
      → Run key font asked n w ps g m v → Run key font asked n w ps g' m' v' → Same g g' m m' v v'
  same_in a h over over = record { given = refl; numbers = refl; window = refl }
  same_in a h (rest q) (rest q') = same_in a h q q'
  same_in a h (rest q) (step p l r w' l' some room x q') = absurd (omega (arith, some))
  same_in a h (step p l r w' l' some room x q) (rest q') = absurd (omega (arith, some))
  same_in {s = s} {n = n} {w = w} a h {m' = m'} {v' = v'} (step {ps = ps} p l r w' l' some room x q) (step {g = g₂} _ l₂ r₂ w₂ l₂' some₂ room₂ x₂ q₂) =
      let few = fewer s p (whole ps) h in
      let y = stepped key font asked z a p l r w' l' few room x in
      let y₂ = stepped key font asked z a p l₂ r₂ w₂ l₂' few room₂ x₂ in
      let numbers-are : r₂.numbers ≡ r.numbers = y₂.numbers-are ∙ sym y.numbers-are in
      let took-is : r₂.took ≡ r.took = y₂.took-is ∙ sym y.took-is in
      let window-is : w₂ ≡ w' = y₂.window-is ∙ sym y.window-is in
      let q' : Run key font asked r.numbers w' (drop r.took p ∷ ps) g₂ m' v' =
      subst (λ (i : ℕ). Run key font asked r.numbers w' (drop i p ∷ ps) g₂ m' v') took-is
      (subst (λ (i : List ℕ). Run key font asked r.numbers i (drop r₂.took p ∷ ps) g₂ m' v') window-is
      (subst (λ (i : Numbers). Run key font asked i w₂ (drop r₂.took p ∷ ps) g₂ m' v') numbers-are q₂)) in
      let more = same_in (after-step key font asked z a p l r w' l' y) (still-few s p (whole ps) r.took h) q q' in
      record { given = ap₂ ◌++◌ (y.given_is ∙ sym y₂.given_is) more.given; numbers = more.numbers; window = more.window }

  pub live-run-single : (w : List ℕ) → length w ≡ longest_stretch → {ps : List (List ℕ)} → length (whole ps) ≤ most_bytes
      → {g g' : List Given} {m m' : Numbers} {v v' : List ℕ}
      → Run key font asked no_bytes w ps g m v → Run key font asked no_bytes w ps g' m' v' → Same g g' m m' v v'
  live-run-single w h few p q = same_in (after_none (its (told key font asked.layout) asked) w h) (omega (arith, few)) p q
