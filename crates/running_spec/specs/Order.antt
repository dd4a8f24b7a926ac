-- The order's refusals of feed and finish: which comes first, and what a refused feed leaves; then read backwards, what a record that passed a
-- test has, and what a call that passed them all does.
-- Assumes nothing.
use Rattle.std.specs.Prelude.{◌≡◌, refl, Bool, true, false, cond, List, ◌++◌, ℕ, ◌+◌, ◌≤◌, ltb, length, Ok, Err, Result, ⊤}
use Rattle.std.proofs.Common.{sym, ap, arith, le-ltb, ltb-false}
use Rattle.base_lists.specs.Never.{never}
use Rattle.base_lists.specs.Buffers.{over}
use Rattle.digest_spec.specs.Instances.{DIGEST, unknown}
use Rattle.digest_call.specs.Answers.{LONGEST-MESSAGE}
use Rattle.running_spec.specs.Running.{unfinished, unfeedable, is_finished, grown, concluded, on_feed, feed_answer}
use Rattle.running_spec.specs.Running.{feed_record, finish_answer, finish_out, finish_record, on_finish, ended}
use Rattle.running_spec.specs.declared.Record.{Record}
use Rattle.running_spec.specs.declared.FeedRefusal.{FeedRefusal}
use Rattle.running_spec.specs.declared.FeedRefusal.TheVariants as fed-is
use Rattle.running_spec.specs.declared.FinishRefusal.{FinishRefusal}
use Rattle.running_spec.specs.declared.FinishRefusal.TheVariants as finished-is

-- a record that can be fed has a known instance and counts no more than can be fed
pub known_of : (r : Record) → unfeedable r ≡ false → (unknown r.instance ≡ false) × (r.total ≤ LONGEST-MESSAGE)
unfolding unfeedable
known_of r e = decided (unknown r.instance) refl e
  where
    decided : (b : Bool) → unknown r.instance ≡ b → cond b true (ltb LONGEST-MESSAGE r.total) ≡ false
        → (unknown r.instance ≡ false) × (r.total ≤ LONGEST-MESSAGE)
    decided true h g = never (sym g)
    decided false h g = (h, ltb-false LONGEST-MESSAGE r.total g)

-- 14 is asked first: after a finish nothing else of the record or of the call counts
pub finished-first : (r : Record) (b o : List ℕ) → is_finished r ≡ true
    → (feed_answer r b ≡ Err fed-is.AfterFinish) × (finish_answer r o ≡ Err finished-is.AfterFinish)
unfolding feed_answer finish_answer
finished-first r b o f = (rw f, rw f)

-- a feed that is refused leaves the record
pub refused-leaves : (r : Record) (b : List ℕ) → (Ok tt ≡ feed_answer r b → ⊥) → feed_record r b ≡ r
unfolding feed_record
refused-leaves r b n = left (feed_answer r b) n
  where
    left : (a : Result ⊤ FeedRefusal) → (Ok tt ≡ a → ⊥) → on_feed a (grown r (r.total + length b) (unfinished r ++ b)) r ≡ r
    left (Ok tt) n = absurd (n refl)
    left (Err fed-is.AfterFinish) n = refl
    left (Err fed-is.Unknown) n = refl
    left (Err fed-is.TooLong) n = refl

-- what a feed that is done was tested for
pub record Tested (r : Record) (b : List ℕ) : Type 0 where
  pub goes_on : ltb 0 r.finished ≡ false
  pub usable : unfeedable r ≡ false
  pub fits : r.total + length b ≤ LONGEST-MESSAGE

pub feed-tested : (r : Record) (b : List ℕ) → Ok tt ≡ feed_answer r b → Tested r b
unfolding feed_answer
feed-tested r b e =
    let t = tested (ltb 0 r.finished) (unfeedable r) (ltb LONGEST-MESSAGE (r.total + length b)) e in
    record { goes_on = t.0; usable = t.1; fits = ltb-false LONGEST-MESSAGE (r.total + length b) t.2 }
  where
    tested : (f u t : Bool) → ◌≡◌ {A = Result ⊤ FeedRefusal} (Ok tt) (cond f (Err fed-is.AfterFinish) (cond u (Err fed-is.Unknown) (cond t (Err fed-is.TooLong) (Ok tt))))
        → (f ≡ false) × (u ≡ false) × (t ≡ false)
    tested true u t e = absurd (let z : ◌≡◌ {A = ℕ} 0 1 = cc e in omega arith)
    tested false true t e = absurd (let z : ◌≡◌ {A = ℕ} 0 1 = cc e in omega arith)
    tested false false true e = absurd (let z : ◌≡◌ {A = ℕ} 0 1 = cc e in omega arith)
    tested false false false e = (refl, refl, refl)

-- a feed that passes every test is done, and grows the record
pub feed-passes : (r : Record) (b : List ℕ) → Tested r b
    → (feed_answer r b ≡ Ok tt) × (feed_record r b ≡ grown r (r.total + length b) (unfinished r ++ b))
unfolding feed_record feed_answer
feed-passes r b t =
    let e = le-ltb LONGEST-MESSAGE (r.total + length b) t.fits in
    (rw (t.goes_on, t.usable, e), rw (t.goes_on, t.usable, e))

-- so is a finish, and gives the digest out
pub finish-passes : (r : Record) (o : List ℕ) → ltb 0 r.finished ≡ false → unfeedable r ≡ false → DIGEST ≤ length o
    → (finish_answer r o ≡ Ok (concluded r).run.calls) × (finish_out r o ≡ over (concluded r).hash o)
unfolding finish_out finish_answer
finish-passes r o f u h = let e = le-ltb (length o) DIGEST h in (rw (f, u, e), rw (f, u, e))

-- the record that a finish leaves, from its answer
pub finish-leaves : (r : Record) (o : List ℕ) {a : Result ℕ FinishRefusal} → a ≡ finish_answer r o → on_finish a (ended r) r ≡ finish_record r o
unfolding finish_record
finish-leaves r o e = ap (λ (a : Result ℕ FinishRefusal). on_finish a (ended r) r) e
