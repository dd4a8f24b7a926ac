-- The runs that the theorems of FromStart.antt, EveryLine.antt and Ending.antt speak of: with key and font digest of their sizes, every stream
-- within the limit has a run from its start to its end, and no two of them see anything else. From the promise of `read` alone. Assumes nothing.
use Rattle.std.specs.Prelude.{◌≡◌, refl, List, [], ◌∷◌, ℕ, zero, suc, ◌≤◌, length, replicate}
use Rattle.std.proofs.Common.{ap, arith}
use Rattle.std.proofs.lemmas.List.{length-replicate}
use Rattle.line_spec.specs.Lines.{longest}
use Rattle.frame_spec.specs.Told.{told}
use Rattle.read_call.specs.declared.Asked.{Asked}
use Rattle.read_spec.specs.Sizes.{Sizes}
use Rattle.read_call.specs.Answers.{longest_stream, read_answer, read_out}
use Rattle.demand_reading.specs.Promises.{Seen, seen_from, Run, none, next}
use Rattle.demand_reading.specs.Reaching.{Ended}
use Rattle.demand_reading.proofs.Ending.{run_ends}
use Rattle.demand_reading.proofs.FromStart.{ended-alike}
use Rattle.demand_reading.specs.Whole.{WholeRun, Calls}

-- a line buffer with room for a line
buffer : List ℕ
buffer = replicate longest 0

room : longest ≤ length buffer
unfolding buffer
room = omega (arith, length-replicate {A = ℕ} longest 0)

calls : (key font : List ℕ) (asked : Asked) (s : List ℕ) (n from : ℕ) → Calls key font asked s from n
calls key font asked s zero from = record { seen = []; many = refl; run = none }
calls key font asked s (suc n) from =
    let r = read_answer (told key font asked.layout) asked s from buffer in
    let l = read_out (told key font asked.layout) asked s from buffer in
    let more = calls key font asked s n r.closing in
    record {
      seen = seen_from 0 r l ∷ more.seen;
      many = ap suc more.many;
      run = next r buffer l room (refl, refl) more.run;
    }

module _ (key font : List ℕ) (asked : Asked) (s : List ℕ) (z : Sizes (told key font asked.layout)) (h : length s ≤ longest_stream) where
  -- one call more than the stream has bytes comes to its end
  pub whole_run : WholeRun key font asked s
  whole_run =
      let c = calls key font asked s (suc (length s)) 0 in
      let u = run_ends key font asked s z h 0 (omega arith) (omega (arith, c.many)) c.run in
      record { seen = u.to_end; run = u.run; ended = u.ended }

  pub whole-run-single : {x y : List Seen} → Run key font asked s 0 0 x → Ended x → Run key font asked s 0 0 y → Ended y → x ≡ y
  whole-run-single p a q b = ended-alike key font asked s s 0 0 h h (record {
    alike = record { in-x = omega arith; in-y = omega arith; rest = refl };
    after-i = omega arith;
    after-j = omega arith;
    same = omega arith;
  }) p a q b
