-- `c-received-kept` (order W11): `received-kept` over the exported call: as many bytes of the buffer as it answers are what the events before the fault
-- received, and behind them the buffer is as it was. Assumes nothing.
use Rattle.std.specs.Prelude.{◌≡◌, refl, Bool, cond, List, ℕ, eqb, length, take, drop}
use Rattle.std.proofs.Common.{ap, ◌∙◌}
use Rattle.line_layout.specs.Layouts.{layout_of}
use Rattle.frame_spec.specs.Told.{told}
use Rattle.replay_spec.specs.declared.Event.{Event}
use Rattle.replay_spec.specs.declared.ReplayFault.{ReplayFault}
use Rattle.replay_spec.specs.declared.Replayed as inner
use Rattle.replay_spec.specs.Events.{events}
use Rattle.replay_spec.specs.Press.{is_done}
use Rattle.replay_spec.specs.Answers.{replay_answer, replay_number}
use Rattle.replay_kept.specs.Stepping.{received_in}
use Rattle.replay_kept.specs.Received as keeping
use Rattle.replay_kept.proofs.Received as kept
use Rattle.replay_kept.specs.Received.{before}
use Rattle.lubdhvani.specs.Replaying.{replayed_out}
use Rattle.lubdhvani.specs.declared.replay.Replayed.{Replayed}
use Rattle.lubdhvani_traces.specs.Promises.{Replays}

-- the events before the one at fault: all where the number is 0, and none where the call is refused
abbrev pub before_fault : List ℕ → Replayed → List Event
before_fault trace r = cond (eqb r.number 0) (events trace) (take (before r.event) (events trace))

-- so many bytes are what those events received, and behind them the buffer is as it was
pub record Keeps (trace o : List ℕ) (r : Replayed) (o' : List ℕ) : Type 0 where
  pub received : r.received ≡ length (received_in trace (before_fault trace r))
  pub holds : take r.received o' ≡ received_in trace (before_fault trace r)
  pub behind : drop r.received o' ≡ drop r.received o
  pub long : length o' ≡ length o
