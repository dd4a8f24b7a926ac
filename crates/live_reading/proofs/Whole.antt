-- `live-as-whole`: with key and font digest of their sizes and room for a line at each step, from numbers all zero and any window, for every cutting of
-- fewer than 2^64 bytes into pieces, everything told being the same at each step: what a run of steps gives is what is read of the whole, in order, and
-- its numbers tell what was cut off of the whole. From the promise of a step alone. Assumes nothing.
use Rattle.std.specs.Prelude.{◌≡◌, List, ◌++◌, map, ℕ, ◌+◌, ◌≤◌, length, take, drop}
use Rattle.std.proofs.Common.{sym, ap, subst, ◌∙◌, append_assoc, append-nil, arith, length-append, take-append-drop}
use Rattle.frame_stuff_spec.specs.Stuffing.{longest_stretch}
use Rattle.frame_spec.specs.Told.{told}
use Rattle.read_spec.specs.Sizes.{Sizes}
use Rattle.read_readings.specs.Readings.{readings}
use Rattle.read_call.specs.declared.Asked.{Asked}
use Rattle.read_call.specs.Answers.{judged_within}
use Rattle.live_spec.specs.declared.Numbers.{Numbers}
use Rattle.live_spec.specs.Taking.{no_bytes}
use Rattle.live_spec.specs.Steps.{most_bytes}
use Rattle.live_spec.specs.Ends.{ends_of, ends_answer}
use Rattle.live_reading.specs.Promises.{Given, given_of, given_by, Moment, start, next, Run, over, rest, step, whole}
use Rattle.live_reading.proofs.Moments as moments

-- taken and left are the piece
pub cut : (s p q : List ℕ) (k : ℕ) → s ++ take k p ++ (drop k p ++ q) ≡ s ++ (p ++ q)
cut s p q k =
    append_assoc s (take k p) (drop k p ++ q)
    ∙ ap (λ (l : List ℕ). s ++ l) (sym (append_assoc (take k p) (drop k p) q) ∙ ap (λ (l : List ℕ). l ++ q) (take-append-drop k p))

-- what can be counted of the whole can be counted of its parts
pub fewer : (s p q : List ℕ) → length s + length (p ++ q) ≤ most_bytes → length s + length p ≤ most_bytes
fewer s p q h = omega (arith, h, length-append p q)

pub still-few : (s p q : List ℕ) (k : ℕ) → length s + length (p ++ q) ≤ most_bytes → length (s ++ take k p) + length (drop k p ++ q) ≤ most_bytes
still-few s p q k h =
    omega (arith, h, length-append s (p ++ q), length-append (s ++ take k p) (drop k p ++ q), ap length (cut s p q k))

module _ (key font : List ℕ) (asked : Asked) where
  -- every moment of a run is a moment of the link
  run-moment : {w₀ s : List ℕ} {n m : Numbers} {w v : List ℕ} {ps : List (List ℕ)} {g g' : List Given}
      → Moment key font asked w₀ s n w g → Run key font asked n w ps g' m v → length s + length (whole ps) ≤ most_bytes
      → Moment key font asked w₀ (s ++ whole ps) m v (g ++ g')
  run-moment {s = s} {g = g} now over h = rw (append-nil s, append-nil g) now
  run-moment now (rest q) h = run-moment now q h
  run-moment {w₀} {s} {g = g} now (step {m = m} {v = v} {ps = ps} {g = g''} p l r w' l' some room x q) h =
      let more = next now p l r w' l' (fewer s p (whole ps) h) room x in
      let end = run-moment more q (still-few s p (whole ps) r.took h) in
      subst (λ (y : List Given). Moment key font asked w₀ (s ++ (p ++ whole ps)) m v y) (append_assoc g (given_by r l') g'')
      (subst (λ (y : List ℕ). Moment key font asked w₀ y m v (g ++ given_by r l' ++ g'')) (cut s p (whole ps) r.took) end)

  module _ (z : Sizes (told key font asked.layout)) {w : List ℕ} (h : length w ≡ longest_stretch) (ps : List (List ℕ)) (few : length (whole ps) ≤ most_bytes)
      {g : List Given} {m : Numbers} {v : List ℕ} (run : Run key font asked no_bytes w ps g m v) where
    at-end : Moment key font asked w (whole ps) m v g
    at-end = run-moment start run (omega (arith, few))

    -- the readings given, in order, are those of the whole: the same lines, editions, jobs, nonces, numbers, counts and places
    pub live-as-whole : g ≡ map given_of (readings (judged_within (told key font asked.layout) asked) (whole ps) 0)
    live-as-whole = moments.live-prompt key font asked z h at-end

    -- and the two numbers at the end are those of the whole
    pub live-ends : ends_answer m ≡ ends_of (whole ps)
    live-ends = moments.live-ends key font asked z h at-end
