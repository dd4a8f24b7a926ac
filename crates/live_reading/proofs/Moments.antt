-- One step, and every moment of a link: with key and font digest of their sizes, room for a line and pieces that can be counted, what was given is what
-- is read of the bytes taken in so far, so each reading is given with its closing mark (`live-prompt`); and the numbers tell what was cut off so far
-- (`live-ends`). From the promise of a step alone. Assumes nothing.
use Rattle.std.specs.Prelude.{◌≡◌, refl, Bool, true, false, cond, List, [], ◌∷◌, ◌++◌, map, ℕ, ◌+◌, ◌≤◌, take}
use Rattle.std.proofs.Common.{sym, ◌∙◌, arith}
use Rattle.std.proofs.Math.Path.{ap, ap₂}
use Rattle.std.proofs.lemmas.List.{map-append}
use Rattle.std.proofs.Math.ListN.{length}
use borrow.Author.Tests.{le-ltb}
use Rattle.base_lists.specs.Over.{take-over}
use Rattle.frame_stuff_spec.specs.Stuffing.{longest_stretch}
use Rattle.line_spec.specs.Lines.{longest}
use Rattle.frame_spec.specs.Told.{Told, told}
use Rattle.read_spec.specs.Judged.{Judged, shape, stuffing, font, work, seal, unlisted, trade, layout, line}
use Rattle.read_spec.specs.Sizes.{Sizes}
use Rattle.read_readings.specs.Readings.{Reading, reading, ends, readings}
use Rattle.read_call.specs.declared.Asked.{Asked}
use Rattle.demand_reading.proofs.GivenWritten.{told-sized}
use Rattle.read_call.specs.Answers.{judged_within}
use Rattle.live_spec.specs.declared.Numbers.{Numbers}
use Rattle.live_spec.specs.declared.Step.{Step}
use Rattle.live_spec.specs.Taking.{Taken, taken_in}
use Rattle.live_spec.specs.Steps.{most_bytes, judged_in, Found, waits, closed, found_in, found, step_of, window_of, line_of}
use Rattle.live_spec.specs.Ends.{ends_of, ends_answer}
use Rattle.live_reading.specs.Promises.{Steps, Given, given_of, given_by, Moment, start, next}
use Rattle.live_spec.specs.After.{After}
use Rattle.live_spec.proofs.After.{after_none, possible-is, read_all, ends-told}
use Rattle.live_spec.proofs.Pieces.{its, new_of, took_in}

module _ (n : Numbers) (w : List ℕ) (k : Taken) (l : List ℕ) where
  -- what is given of a stretch does not depend on what the line buffer held
  closed-given : (j : Judged) → given_by (step_of n (closed k j)) (line_of l (closed k j)) ≡ given_of (reading k.place j) ∷ []
  closed-given shape = refl
  closed-given stuffing = refl
  closed-given font = refl
  closed-given work = refl
  closed-given (seal i) = refl
  closed-given (unlisted i) = refl
  closed-given (trade i) = refl
  closed-given (layout i) = refl
  closed-given (line own x i) = rw (take-over x l (length x) refl) refl

  module _ (j : Judged) where
    -- a stretch is closed, or none is
    abbrev either : Bool → Found
    either b = cond b (waits k) (closed k j)

    its-numbers : (b : Bool) → (step_of n (either b)).numbers ≡ k.behind
    its-numbers true = refl
    its-numbers false = refl

    its-count : (b : Bool) → (step_of n (either b)).took ≡ k.took
    its-count true = refl
    its-count false = refl

    its-window : (b : Bool) → window_of w (either b) ≡ k.window
    its-window true = refl
    its-window false = refl

    its-given : (b : Bool) → given_by (step_of n (either b)) (line_of l (either b)) ≡ map given_of (cond b [] (reading k.place j ∷ []))
    its-given true = refl
    its-given false = closed-given j

module _ (key font : List ℕ) (asked : Asked) (z : Sizes (told key font asked.layout)) where
  abbrev pub t : Told
  t = told key font asked.layout

  -- what a step comes to
  pub record Stepped (n : Numbers) (w p : List ℕ) (r : Step) (w' l' : List ℕ) : Type 0 where
    pub numbers-are : r.numbers ≡ (taken_in n w p).behind
    pub took-is : r.took ≡ (taken_in n w p).took
    pub window-is : w' ≡ (taken_in n w p).window
    pub given_is : given_by r l' ≡ map given_of (new_of t asked (taken_in n w p))

  module _ {s : List ℕ} {n : Numbers} {w : List ℕ} {g : List Reading} (a : After (its t asked) s n w g) where
    pub stepped : (p l : List ℕ) (r : Step) (w' l' : List ℕ) → length s + length p ≤ most_bytes → longest ≤ length l
        → Steps key font asked n w p l r w' l' → Stepped n w p r w' l'
    unfolding found
    stepped p l r w' l' h room x =
        let k = taken_in n w p in
        let j = judged_in t asked k.window k.place in
        let few : n.received + length p ≤ most_bytes = omega (arith, h, a.received_is) in
        let is : found t asked n w p (length l) ≡ found_in t asked k =
        rw (possible-is a, told-sized t z.key-is z.font-is, le-ltb most_bytes (n.received + length p) few, le-ltb (length l) longest room) in
        let r-is : r ≡ step_of n (found_in t asked k) = x.0 ∙ ap (step_of n) is in
        let b = ends k.place in
        record {
          numbers-are = ap (λ (y : Step). y.numbers) r-is ∙ its-numbers n w k l j b;
          took-is = ap (λ (y : Step). y.took) r-is ∙ its-count n w k l j b;
          window-is = x.1.0 ∙ ap (window_of w) is ∙ its-window n w k l j b;
          given_is = ap₂ given_by r-is (x.1.1 ∙ ap (line_of l) is) ∙ its-given n w k l j b;
        }

    -- and after it
    pub after-step : (p l : List ℕ) (r : Step) (w' l' : List ℕ) → Stepped n w p r w' l'
        → After (its t asked) (s ++ take r.took p) r.numbers w' (g ++ new_of t asked (taken_in n w p))
    after-step p l r w' l' x = rw (x.numbers-are, x.took-is, x.window-is) (took_in t asked p a).after

  -- what was given is what was read
  pub record Told-all (s : List ℕ) (n : Numbers) (w : List ℕ) (g : List Given) : Type 0 where
    pub read : List Reading
    pub after : After (its t asked) s n w read
    pub given : g ≡ map given_of read

  pub moment-after : {w₀ : List ℕ} → length w₀ ≡ longest_stretch → {s : List ℕ} {n : Numbers} {w : List ℕ} {g : List Given}
      → Moment key font asked w₀ s n w g → Told-all s n w g
  moment-after {w₀} h start = record { read = []; after = after_none (its t asked) w₀ h; given = refl }
  moment-after {w₀} h (next {s} {n} {w} {g} m p l r w' l' few room x) =
      let before = moment-after h m in
      let y = stepped before.after p l r w' l' few room x in
      record {
        read = before.read ++ new_of t asked (taken_in n w p);
        after = after-step before.after p l r w' l' y;
        given = ap₂ ◌++◌ before.given y.given_is ∙ sym (map-append given_of before.read (new_of t asked (taken_in n w p)));
      }

  module _ {w₀ : List ℕ} (h : length w₀ ≡ longest_stretch) {s : List ℕ} {n : Numbers} {w : List ℕ} {g : List Given} (m : Moment key font asked w₀ s n w g) where
    -- at every moment: what was given are the readings of the bytes taken in, no more and no fewer
    pub live-prompt : g ≡ map given_of (readings (judged_within t asked) s 0)
    live-prompt = let x = moment-after h m in x.given ∙ ap (map given_of) (sym (read_all x.after))

    -- and the last call would tell what was cut off of them
    pub live-ends : ends_answer n ≡ ends_of s
    live-ends = ends-told (moment-after h m).after
