-- A run cut in two, a run behind a fault, and how the events of a trace follow one another. Assumes nothing.
use Rattle.std.specs.Prelude.{◌≡◌, Bool, true, false, cond, ltb, get_or, take, drop}
use Rattle.std.proofs.Math.Path.{refl}
use Rattle.std.proofs.Common.{sym, ap, ◌∙◌, arith, lt-ltb, le-ltb}
use mathlib.Core.List.{List, [], ◌∷◌, ◌++◌}
use Prim.Native.Nat.{ℕ, zero, suc, ◌+◌, ◌-◌, ◌≤◌, ◌<◌}
use Rattle.std.proofs.Math.ListN.{length, length-drop}
use Rattle.base_fields.specs.Fields.{head_length, Front, value, no_field, front}
use Rattle.base_fields.specs.Laws.{front-stands}
use Rattle.read_spec.specs.Judged.{Judged}
use Rattle.read_call.specs.Answers.{longest_stream}
use Rattle.replay_spec.specs.declared.Kind.{Kind}
use Rattle.replay_spec.specs.declared.Kind.TheVariants.{Received, Asked, Printed, Bad}
use Rattle.replay_spec.specs.declared.Event.{Event}
use Rattle.replay_spec.specs.Events.{takes, event_of, event_at, events_in, bytes_of}
use Rattle.replay_spec.specs.Press.{Given, nothing, gives, Press, counted, receive, ask, print_on, does, is_done, step, turn, run}

module _ (judge : List ℕ → Judged) (trace : List ℕ) where
  pub run-append : (s : Press) (l m : List Event) → run judge trace s (l ++ m) ≡ run judge trace (run judge trace s l) m
  unfolding run
  run-append s [] m = refl
  run-append s (e ∷ l) m = run-append (turn judge trace s e) l m

  pub turn-done : (s : Press) (e : Event) → is_done s.answer ≡ true → turn judge trace s e ≡ step judge trace s e
  unfolding turn
  turn-done s e d = rw d

  -- each event is counted
  pub step_counts : (s : Press) (e : Event) → (step judge trace s e).event ≡ s.event + 1
  unfolding step receive ask
  step_counts s e = go e.kind
    where
      on-print : (g : Given) → (print_on g (bytes_of trace e) (counted s)).event ≡ s.event + 1
      on-print nothing = refl
      on-print (gives l) = refl

      on-receive : (b : Bool) (x y : Press) → x.event ≡ s.event + 1 → y.event ≡ s.event + 1 → (cond b x y).event ≡ s.event + 1
      on-receive true x y p q = p
      on-receive false x y p q = q

      go : (k : Kind) → (does judge k (bytes_of trace e) (counted s)).event ≡ s.event + 1
      go Received = on-receive (ltb longest_stream (length s.stream + length (bytes_of trace e))) _ _ refl refl
      go Asked = refl
      go Printed = on-print s.given
      go Bad = refl

  -- nothing is done behind a fault
  pub run-stays : (s : Press) (l : List Event) → is_done s.answer ≡ false → run judge trace s l ≡ s
  unfolding run turn
  run-stays s [] d = refl
  run-stays s (e ∷ l) d = rw d (run-stays s l d)

module _ (trace : List ℕ) (at : ℕ) where
  -- what an event's places are within
  pub record Placed (e : Event) : Type 0 where
    pub moves : at < length trace → at < e.end
    pub inside : at ≤ length trace → e.end ≤ length trace
    pub order : (e.kind ≡ Bad → ⊥) → e.start ≤ e.end
    pub within : (e.kind ≡ Bad → ⊥) → e.end ≤ length trace

  -- an event moves on within the trace
  pub event-placed : Placed (event_at trace at)
  unfolding event_at
  event-placed = go (front takes (get_or trace at 0) (drop at trace)) refl
    where
      go : (f : Front) → front takes (get_or trace at 0) (drop at trace) ≡ f → Placed (event_of (length trace) at (get_or trace at 0) f)
      go no_field p = record {
        moves = λ h. h;
        inside = λ h. omega arith;
        order = λ n. absurd (n refl);
        within = λ n. omega arith;
      }
      go (value v r) p =
          let s = front-stands takes (get_or trace at 0) (drop at trace) v r p in
          let k : at + head_length + length v ≤ length trace = omega (arith, s.2, length-drop at trace) in
          record { moves = λ h. omega arith; inside = λ h. k; order = λ n. omega arith; within = λ n. k }

  -- the events from a place on: none at the end, else one, and those behind it
  pub events-none : (n : ℕ) → length trace ≤ at → events_in n trace at ≡ []
  unfolding events_in
  events-none zero h = refl
  events-none (suc n) h = rw (le-ltb at (length trace) h)

  pub events-one : (n : ℕ) → at < length trace → events_in (suc n) trace at ≡ event_at trace at ∷ events_in n trace (event_at trace at).end
  unfolding events_in
  events-one n h = rw (lt-ltb at (length trace) h)

pub events-few : (n : ℕ) (trace : List ℕ) (at : ℕ) → length (events_in n trace at) ≤ n
unfolding events_in
events-few zero trace at = omega arith
events-few (suc n) trace at = go (ltb at (length trace)) (events-few n trace (event_at trace at).end)
  where
    go : (b : Bool) → length (events_in n trace (event_at trace at).end) ≤ n
        → length (cond b (event_at trace at ∷ events_in n trace (event_at trace at).end) []) ≤ suc n
    go true h = omega arith
    go false h = omega arith
