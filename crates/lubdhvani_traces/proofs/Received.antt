-- `c-received-kept` (order W11): `received-kept` over the exported call: as many bytes of the buffer as it answers are what the events before the fault
-- received, and behind them the buffer is as it was. Assumes nothing.
use Rattle.std.specs.Prelude.{◌≡◌, refl, Bool, cond, List, ℕ, eqb, length, take, drop, Ok, Err, Result, ⊤}
use Rattle.std.proofs.Common.{ap, ◌∙◌}
use Rattle.line_layout.specs.Layouts.{layout_of}
use Rattle.frame_spec.specs.Told.{told}
use Rattle.replay_spec.specs.declared.Event.{Event}
use Rattle.replay_spec.specs.declared.ReplayFault.{ReplayFault}
use Rattle.replay_spec.specs.declared.ReplayFault.TheVariants as answer-is
use Rattle.replay_spec.specs.declared.Replayed as inner
use Rattle.replay_spec.specs.Events.{events}
use Rattle.replay_spec.specs.Press.{is_done}
use Rattle.replay_spec.specs.Answers.{replay_answer, replay_number}
use Rattle.replay_kept.specs.Stepping.{received_in}
use Rattle.replay_kept.specs.Received as keeping
use Rattle.replay_kept.proofs.Received as kept
use Rattle.replay_kept.specs.Received.{before}
use Rattle.lubdhvani.specs.Replaying.{replayed_out}
use Rattle.lubdhvani.specs.declared.replay.Replayed.{Replayed}
use Rattle.lubdhvani_traces.specs.Promises.{Replays}
use Rattle.lubdhvani_traces.specs.Received.{before_fault, Keeps}

-- number 0 is the answer without a fault
done-is : (a : Result ⊤ ReplayFault) → is_done a ≡ eqb (replay_number a) 0
done-is (Ok tt) = refl
done-is (Err answer-is.Sizes) = refl
done-is (Err answer-is.NoRoom) = refl
done-is (Err answer-is.Field) = refl
done-is (Err answer-is.NoLine) = refl
done-is (Err answer-is.TooLong) = refl

keeps : (trace o : List ℕ) (a : inner.Replayed) (o' : List ℕ) → keeping.Keeps trace o a o' → Keeps trace o (replayed_out a) o'
keeps trace o a o' k =
    let same : keeping.before_fault trace a ≡ before_fault trace (replayed_out a) =
    ap (λ (b : Bool). cond b (events trace) (take (before a.event) (events trace))) (done-is a.answer) in
    record {
      received = k.received ∙ ap (λ (l : List Event). length (received_in trace l)) same;
      holds = k.holds ∙ ap (received_in trace) same;
      behind = k.behind;
      long = k.long;
    }

pub c-received-kept : (key font : List ℕ) (ed lay : ℕ) (trace o : List ℕ) (r : Replayed) (o' : List ℕ) → Replays key font ed lay trace o r o'
    → Keeps trace o r o'
c-received-kept key font ed lay trace o r o' (p, q) =
    let a = replay_answer (told key font (layout_of lay)) ed trace o in
    rw p (keeps trace o a o' (kept.received-kept key font ed (layout_of lay) trace o a o' (refl, q)))
