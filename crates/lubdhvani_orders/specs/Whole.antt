-- Whole runs of `lubdhvani_read`: each is one of the read calls below, which sees the same; and with key and font digest of their sizes every stream within the
-- limit has one. From the promise of the read call alone. Assumes nothing.
use Rattle.std.specs.Prelude.{◌≡◌, refl, List, [], ◌∷◌, ℕ, zero, suc, ◌≤◌, length, take, replicate}
use Rattle.std.proofs.Common.{ap, subst, ◌∙◌, arith, take_at}
use Rattle.std.proofs.lemmas.List.{length-replicate}
use Rattle.line_spec.specs.Lines.{longest}
use Rattle.line_layout.specs.Layouts.{layout_of}
use Rattle.frame_spec.specs.Told.{told}
use Rattle.read_spec.specs.Sizes.{Sizes}
use Rattle.read_call.specs.Answers.{longest_stream, read_answer, read_out}
use Rattle.demand_reading.specs.Promises.{Seen}
use Rattle.demand_reading.proofs.Ending.{run_ends}
use Rattle.demand_reading.specs.Whole as inner
use Rattle.lubdhvani.specs.Readings.{asked_of, reading_out}
use Rattle.lubdhvani.specs.declared.read.Asked.{Asked}
use Rattle.lubdhvani_demands.specs.Promises.{seen_from, Run, none, next}
use Rattle.lubdhvani_demands.proofs.Reading.{c-run}
use Rattle.lubdhvani_orders.specs.Promises.{WholeRun}

-- as a run of the read calls below
abbrev pub c-whole : {key font : List ℕ} {asked : Asked} {s : List ℕ} → WholeRun key font asked s → inner.WholeRun key font (asked_of asked) s
c-whole w = record { seen = w.seen; run = c-run w.run; ended = w.ended }

module _ (key font : List ℕ) (asked : Asked) (s : List ℕ) where
  -- some first ones of calls made
  first-calls : (n : ℕ) {from : ℕ} {seen : List Seen} → Run key font asked s 0 from seen → Run key font asked s 0 from (take n seen)
  first-calls zero run = none
  first-calls (suc n) none = none
  first-calls (suc n) (next r l l' g p run) = next r l l' g p (first-calls n run)

  -- so many calls, from any place
  record Calls (from n : ℕ) : Type 0 where
    pub seen : List Seen
    pub many : length seen ≡ n
    pub run : Run key font asked s 0 from seen

  calls : (n from : ℕ) → Calls from n
  calls zero from = record { seen = []; many = refl; run = none }
  calls (suc n) from =
      let buffer : List ℕ = replicate longest 0 in
      let r = reading_out (read_answer (told key font (layout_of asked.layout)) (asked_of asked) s from buffer) in
      let l = read_out (told key font (layout_of asked.layout)) (asked_of asked) s from buffer in
      let more = calls n r.closing in
      record {
        seen = seen_from 0 r l ∷ more.seen;
        many = ap suc more.many;
        run = next r buffer l (omega (arith, length-replicate {A = ℕ} longest 0)) (refl, refl) more.run;
      }

  -- one call more than the stream has bytes comes to its end
  pub c-whole-run : Sizes (told key font (layout_of asked.layout)) → length s ≤ longest_stream → WholeRun key font asked s
  c-whole-run z h =
      let c = calls (suc (length s)) 0 in
      let u = run_ends key font (asked_of asked) s z h 0 (omega arith) (omega (arith, c.many)) (c-run c.run) in
      let n = length u.to_end in
      let is : take n c.seen ≡ u.to_end = ap (take n) u.parts ∙ take_at u.to_end u.more n refl in
      record { seen = u.to_end; run = subst (Run key font asked s 0 0) is (first-calls n c.run); ended = u.ended }
