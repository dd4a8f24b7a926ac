-- The order of the refusals (order W11), from the promise of `replay` alone: 2, then 4, with the buffer as it was; then the first event at fault decides, even
-- after a difference, for what it is at fault (`first-decides`). Assumes nothing.
use Rattle.std.specs.Prelude.{◌≡◌, Bool, cond, List, ◌∷◌, ◌++◌, ℕ, ◌+◌, ltb, length, Ok, Err, Result, ⊤}
use Rattle.std.proofs.Math.Path.{refl}
use Rattle.std.proofs.Common.{sym, ap, ap₂, arith}
use Rattle.std.proofs.Math.Bool.{true, false, not}
use Rattle.base_lists.specs.Buffers.{over}
use Rattle.line_layout.specs.declared.Layout.{Layout}
use Rattle.frame_spec.specs.Told.{Told, told}
use Rattle.read_call.specs.Answers.{longest_stream, sized_told}
use Rattle.replay_spec.specs.declared.Event.{Event}
use Rattle.replay_spec.specs.declared.ReplayFault.{ReplayFault}
use Rattle.replay_spec.specs.declared.ReplayFault.TheVariants as answer-is
use Rattle.replay_spec.specs.declared.Replayed.{Replayed}
use Rattle.replay_spec.specs.Events.{events}
use Rattle.replay_spec.specs.Press.{start, is_done, run}
use Rattle.replay_spec.specs.Answers.{judging, replayed, replayed_as, answer_of, replay_answer, replay_out, replay_number}
use Rattle.replay_kept.specs.Promises.{Replays}
use Rattle.replay_kept.specs.Stepping.{Fault, Ended, all_done, at-fault, run-ended}
use Rattle.replay_kept.specs.Refused.{refusal, has_room}

module _ (key font : List ℕ) (ed : ℕ) (lay : Layout) (trace o : List ℕ) where
  abbrev t : Told
  t = told key font lay

  -- the event named is the first at fault, and the answer is what it is at fault for
  pub record FirstFault (r : Replayed) : Type 0 where
    pub before : List Event
    pub event : Event
    pub after : List Event
    pub parts : events trace ≡ before ++ (event ∷ after)
    pub none_before : is_done (run (judging t ed) trace start before).answer ≡ true
    pub cause : Fault trace (run (judging t ed) trace start before) event r.answer
    pub named : r.event ≡ length before + 1

  pub data Decided (r : Replayed) (o' : List ℕ) : Type 0 where
    refused : replay_number r.answer ≡ refusal (sized_told t) (has_room o) → (replay_number r.answer ≡ 0 → ⊥) → r.event ≡ 0 → o' ≡ o → Decided r o'
    by-event : refusal (sized_told t) (has_room o) ≡ 0 → FirstFault r → Decided r o'
    without-fault : refusal (sized_told t) (has_room o) ≡ 0 → r.answer ≡ Ok tt → Decided r o'

  -- done is the answer without a fault
  is-done : (a : Result ⊤ ReplayFault) → is_done a ≡ true → a ≡ Ok tt
  is-done (Ok tt) e = refl
  is-done (Err answer-is.Sizes) e = absurd (let z : ◌≡◌ {A = ℕ} 0 1 = cc e in omega arith)
  is-done (Err answer-is.NoRoom) e = absurd (let z : ◌≡◌ {A = ℕ} 0 1 = cc e in omega arith)
  is-done (Err answer-is.Field) e = absurd (let z : ◌≡◌ {A = ℕ} 0 1 = cc e in omega arith)
  is-done (Err answer-is.NoLine) e = absurd (let z : ◌≡◌ {A = ℕ} 0 1 = cc e in omega arith)
  is-done (Err answer-is.TooLong) e = absurd (let z : ◌≡◌ {A = ℕ} 0 1 = cc e in omega arith)

  ran : (o' : List ℕ) → refusal (sized_told t) (has_room o) ≡ 0
      → Ended (judging t ed) trace start (events trace) (replayed t ed trace) → Decided (answer_of (replayed t ed trace)) o'
  ran o' z (all_done d q) = without-fault z (is-done (replayed t ed trace).answer d)
  ran o' z (at-fault b e a parts d f u n q) = by-event z (record {
    before = b;
    event = e;
    after = a;
    parts = parts;
    none_before = f;
    cause = u;
    named = rw d (omega (arith, n));
  })

  by_tests : (x : Bool) → sized_told t ≡ x → (y : Bool) → ltb (length o) longest_stream ≡ y
      → Decided (cond (not x) (replayed_as (Err answer-is.Sizes) 0 0) (cond y (replayed_as (Err answer-is.NoRoom) 0 0) (answer_of (replayed t ed trace))))
      (cond (not x) o (cond y o (over (replayed t ed trace).stream o)))
  unfolding replayed
  by_tests false e true f = refused (sym (ap₂ refusal e (ap not f))) (λ q. omega (arith, q)) refl refl
  by_tests false e false f = refused (sym (ap₂ refusal e (ap not f))) (λ q. omega (arith, q)) refl refl
  by_tests true e true f = refused (sym (ap₂ refusal e (ap not f))) (λ q. omega (arith, q)) refl refl
  by_tests true e false f = ran _ (ap₂ refusal e (ap not f)) (run-ended (judging t ed) trace (events trace) start refl)

  pub first-decides : (r : Replayed) (o' : List ℕ) → Replays key font ed lay trace o r o' → Decided r o'
  unfolding replay_answer replay_out
  first-decides r o' (a, b) = rw (a, b) (by_tests (sized_told t) refl (ltb (length o) longest_stream) refl)
