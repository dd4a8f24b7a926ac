-- Order W4's demands over the promises of start, feed and finish alone: any cutting of a message gives document 01's digest and its count, two
-- feeds leave what one leaves, and a record holds no more of the message than its unfinished block. Assumes nothing.
use Rattle.std.specs.Prelude.{◌≡◌, refl, false, ℕ, ◌+◌, ◌/◌, ◌≤◌, ◌<◌, Ok, Result, ⊤}
use Rattle.std.proofs.Math.Path.{sym, ap}
use Rattle.std.proofs.Common.{◌∙◌, mod-lt, le-ltb, length-append}
use mathlib.Core.List.{List, [], ◌∷◌, ◌++◌, append_assoc, append-nil}
use native.Mathlib.Omega.{arith}
use Rattle.std.proofs.Math.ListN.{length}
use Rattle.base_lists.specs.Buffers.{over}
use Rattle.digest_spec.specs.Instances.{DIGEST, unknown, size_of, rate_of}
use Rattle.digest_spec.specs.Hashing.{Squeezed, absorbed, digest_of, digest_calls}
use Rattle.digest_call.specs.Answers.{LONGEST-MESSAGE}
use Rattle.digest_spec.specs.Shapes.{known-whole}
use Rattle.running_spec.specs.Running.{written, left_of, running_of, unfinished, unfeedable, grown}
use Rattle.running_spec.specs.Running.{start_answer, start_record, feed_answer, feed_record, finish_answer, finish_out}
use Rattle.running_spec.specs.Growth.{Sized}
use Rattle.running_spec.proofs.Growth.{length-left, grown-twice, running-grown, running-concluded}
use Rattle.running_spec.specs.Order.{Tested, known_of, feed-tested, feed-passes, finish-passes}
use Rattle.running_spec.specs.declared.Record.{Record}
use Rattle.running_spec.specs.declared.StartRefusal.{StartRefusal}
use Rattle.running_spec.specs.declared.FeedRefusal.{FeedRefusal}
use Rattle.running_spec.specs.declared.FinishRefusal.{FinishRefusal}
use Rattle.running_spec.specs.Cutting.{Starts, Feeds, Finishes, Feeding, none, next, joined, all_done}

-- feeding a ++ b leaves what feeding a and then b leaves, and they are done where it is
module _ (r : Record) (a b : List ℕ) {r₁ r₂ r₃ : Record} {x y z : Result ⊤ FeedRefusal} (sized : Sized r) (whole : Feeds r (a ++ b) z r₃) (first : Feeds r a x r₁)
    (second : Feeds r₁ b y r₂) where
  pub feed-join : z ≡ Ok tt → (x ≡ Ok tt) × (y ≡ Ok tt) × (r₂ ≡ r₃)
  unfolding grown written unfeedable
  feed-join done =
      let t = feed-tested r (a ++ b) (sym done ∙ whole.0) in
      let fits : r.total + (length a + length b) ≤ LONGEST-MESSAGE = rw (length-append a b) at t.fits in
      let ta : Tested r a = record { goes_on = t.goes_on; usable = t.usable; fits = omega arith } in
      let pa = feed-passes r a ta in
      let one : Record = grown r (r.total + length a) (unfinished r ++ a) in
      let known = known_of r t.usable in
      let r₁-is : r₁ ≡ one = first.1 ∙ pa.1 in
      let tb : Tested one b = record {
        goes_on = refl;
        usable = rw known.0 (le-ltb LONGEST-MESSAGE (r.total + length a) (omega arith));
        fits = omega arith;
      } in
      let pb = feed-passes one b tb in
      let total : r.total + length a + length b ≡ r.total + length (a ++ b) = rw (length-append a b) (omega arith) in (
        first.0 ∙ pa.0,
        second.0 ∙ ap (λ (q : Record). feed_answer q b) r₁-is ∙ pb.0,
        second.1 ∙ ap (λ (q : Record). feed_record q b) r₁-is ∙ pb.1
            ∙ grown-twice r known.0 sized a b (r.total + length a + length b)
            ∙ ap (λ (u : ℕ). grown r u (unfinished r ++ (a ++ b))) total
            ∙ sym (whole.1 ∙ (feed-passes r (a ++ b) t).1),
      )

-- from the record of a message on
module _ (i : ℕ) (known : unknown i ≡ false) where
  running-passes : (m b : List ℕ) → length (m ++ b) ≤ LONGEST-MESSAGE → Tested (running_of i m) b
  unfolding running_of written unfeedable
  running-passes m b h =
      let fits : length m + length b ≤ LONGEST-MESSAGE = rw (length-append m b) at h in
      record { goes_on = refl; usable = rw known (le-ltb LONGEST-MESSAGE (length m) (omega arith)); fits = fits }

  pub finish-running : (m o : List ℕ) → length m ≤ LONGEST-MESSAGE → DIGEST ≤ length o
      → (finish_answer (running_of i m) o ≡ Ok (digest_calls i m)) × (finish_out (running_of i m) o ≡ over (digest_of i m) o)
  unfolding digest_of digest_calls
  finish-running m o h room =
      let t = running-passes m [] (rw (append-nil m) h) in
      let p = finish-passes (running_of i m) o t.goes_on t.usable room in
      let c = running-concluded i known m in
      (p.0 ∙ ap (λ (q : Squeezed). Ok q.run.calls) c, p.1 ∙ ap (λ (q : Squeezed). over q.hash o) c)

  -- pieces within the limit are all taken, and the record is that of the message
  pub fed-running : (m : List ℕ) {r r' : Record} {bs : List (List ℕ)} {as' : List (Result ⊤ FeedRefusal)} → r ≡ running_of i m → Feeding r bs as' r'
      → length (m ++ joined bs) ≤ LONGEST-MESSAGE → (as' ≡ all_done bs) × (r' ≡ running_of i (m ++ joined bs))
  fed-running m e none h = (refl, e ∙ ap (running_of i) (sym (append-nil m)))
  fed-running m e (next {b = b} {bs = bs} p ps) h =
      let step : length ((m ++ b) ++ joined bs) ≤ LONGEST-MESSAGE = rw (append_assoc m b (joined bs)) h in
      let fits : length (m ++ b) ≤ LONGEST-MESSAGE = omega (arith, length-append (m ++ b) (joined bs)) in
      let q = feed-passes (running_of i m) b (running-passes m b fits) in
      let grew = p.1 ∙ ap (λ (x : Record). feed_record x b) e ∙ q.1 ∙ running-grown i known m b in
      let rest = fed-running (m ++ b) grew ps step in
      (cons (p.0 ∙ ap (λ (x : Record). feed_answer x b) e ∙ q.0) rest.0, rest.1 ∙ ap (running_of i) (append_assoc m b (joined bs)))
    where
      cons : {a c : Result ⊤ FeedRefusal} {l l' : List (Result ⊤ FeedRefusal)} → a ≡ c → l ≡ l' → a ∷ l ≡ c ∷ l'
      cons p q = cc

module _ (i : ℕ) (known : unknown i ≡ false) (r₀ : Record) {r r' : Record} {a : Result ⊤ StartRefusal} {as' : List (Result ⊤ FeedRefusal)} {pieces : List (List ℕ)}
    (start : Starts r₀ i a r) (feeds : Feeding r pieces as' r') (fits : length (joined pieces) ≤ LONGEST-MESSAGE) where
  from_start : (a ≡ Ok tt) × (as' ≡ all_done pieces) × (r' ≡ running_of i (joined pieces))
  unfolding start_answer start_record
  from_start =
      let s : r ≡ running_of i [] = start.1 ∙ rw known in
      let f = fed-running i known [] s feeds fits in
      (start.0 ∙ rw known, f.0, f.1)

  -- the record holds its instance, the total, the sponge's state after the whole blocks and the unfinished bytes, fewer than a block, and
  -- nothing else
  pub holds-no-more : (r' ≡ written i (length (joined pieces)) (absorbed (size_of i) (rate_of i) (joined pieces) (length (joined pieces) / rate_of i)).state
      (left_of i (joined pieces)))
      × (length (left_of i (joined pieces)) < rate_of i)
  unfolding running_of
  holds-no-more = (from_start.2, rw (length-left i (joined pieces)) (mod-lt (length (joined pieces)) (known-whole i known).fits.some))

  -- start, feeds and finish give the digest of the pieces joined, and its count
  pub any-cutting : {r'' : Record} {f : Result ℕ FinishRefusal} (o : List ℕ) {o' : List ℕ} → Finishes r' o f r'' o' → DIGEST ≤ length o
      → (a ≡ Ok tt) × (as' ≡ all_done pieces) × (f ≡ Ok (digest_calls i (joined pieces))) × (o' ≡ over (digest_of i (joined pieces)) o)
  any-cutting o finish room =
      let e = from_start.2 in
      let d = finish-running i known (joined pieces) o fits room in
      (from_start.0, from_start.1, finish.0 ∙ ap (λ (q : Record). finish_answer q o) e ∙ d.0, finish.2 ∙ ap (λ (q : Record). finish_out q o) e ∙ d.1)
