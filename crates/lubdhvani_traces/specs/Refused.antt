-- `c-first-decides` (order W11): `first-decides` over the exported call, by its numbers: 2, then 4, with the buffer as it was; then the first event at fault
-- decides, even after a difference, with 20, 21 or 3 for what it is at fault. Assumes nothing.
use Rattle.std.specs.Prelude.{◌≡◌, refl, true, List, ◌∷◌, ◌++◌, ℕ, ◌+◌, ◌<◌, length, Result, ⊤}
use Rattle.std.proofs.Common.{ap}
use Rattle.line_layout.specs.Layouts.{layout_of}
use Rattle.frame_spec.specs.Told.{Told, told}
use Rattle.read_call.specs.Answers.{longest_stream, sized_told}
use Rattle.replay_spec.specs.declared.Kind.TheVariants.{Received, Printed, Bad}
use Rattle.replay_spec.specs.declared.Event.{Event}
use Rattle.replay_spec.specs.declared.ReplayFault.{ReplayFault}
use Rattle.replay_spec.specs.declared.Replayed as inner
use Rattle.replay_spec.specs.Events.{events, bytes_of}
use Rattle.replay_spec.specs.Press.{nothing, Press, start, is_done, run}
use Rattle.replay_spec.specs.Answers.{judging, replay_answer, replay_number}
use Rattle.replay_kept.specs.Stepping as stepping
use Rattle.replay_kept.proofs.Refused as kept
use Rattle.replay_kept.specs.Refused.{refusal, has_room}
use Rattle.lubdhvani.specs.Replaying.{replayed_out}
use Rattle.lubdhvani.specs.declared.replay.Replayed.{Replayed}
use Rattle.lubdhvani_traces.specs.Promises.{Replays}

-- what an event is at fault for, by its number: a bad field, a print with no line given and unprinted, or bytes that take the stream past its limit
pub data Fault (trace : List ℕ) (s : Press) (e : Event) : ℕ → Type 0 where
  bad-field : e.kind ≡ Bad → Fault trace s e 20
  no_line : e.kind ≡ Printed → s.given ≡ nothing → Fault trace s e 21
  too_long : e.kind ≡ Received → longest_stream < length s.stream + length (bytes_of trace e) → Fault trace s e 3

by_number : {trace : List ℕ} {s : Press} {e : Event} {a : Result ⊤ ReplayFault} → stepping.Fault trace s e a → Fault trace s e (replay_number a)
by_number (stepping.bad-field k) = bad-field k
by_number (stepping.no_line k g) = no_line k g
by_number (stepping.too_long k h) = too_long k h

module _ (key font : List ℕ) (ed lay : ℕ) (trace o : List ℕ) where
  abbrev t : Told
  t = told key font (layout_of lay)

  -- the event named is the first at fault, and the number is what it is at fault for
  pub record FirstFault (r : Replayed) : Type 0 where
    pub before : List Event
    pub event : Event
    pub after : List Event
    pub parts : events trace ≡ before ++ (event ∷ after)
    pub none_before : is_done (run (judging t ed) trace start before).answer ≡ true
    pub cause : Fault trace (run (judging t ed) trace start before) event r.number
    pub named : r.event ≡ length before + 1

  pub data Decided (r : Replayed) (o' : List ℕ) : Type 0 where
    refused : r.number ≡ refusal (sized_told t) (has_room o) → (r.number ≡ 0 → ⊥) → r.event ≡ 0 → o' ≡ o → Decided r o'
    by-event : refusal (sized_told t) (has_room o) ≡ 0 → FirstFault r → Decided r o'
    without-fault : refusal (sized_told t) (has_room o) ≡ 0 → r.number ≡ 0 → Decided r o'

  decided : (a : inner.Replayed) (o' : List ℕ) → kept.Decided key font ed (layout_of lay) trace o a o' → Decided (replayed_out a) o'
  decided a o' (kept.refused n some e same) = refused n some e same
  decided a o' (kept.by-event z f) = by-event z (record {
    before = f.before;
    event = f.event;
    after = f.after;
    parts = f.parts;
    none_before = f.none_before;
    cause = by_number f.cause;
    named = f.named;
  })
  decided a o' (kept.without-fault z d) = without-fault z (ap replay_number d)

  pub c-first-decides : (r : Replayed) (o' : List ℕ) → Replays key font ed lay trace o r o' → Decided r o'
  c-first-decides r o' (p, q) =
      let a = replay_answer t ed trace o in
      rw p (decided a o' (kept.first-decides key font ed (layout_of lay) trace o a o' (refl, q)))
