-- `received-kept` (order W11), from the promise of `replay` alone: the buffer holds what the events before the fault received, and is else as it was. Assumes
-- nothing.
use Rattle.std.specs.Prelude.{◌≡◌, Bool, not, cond, List, ◌∷◌, ℕ, ◌-◌, ◌≤◌, ltb, length, take, drop}
use Rattle.std.proofs.Math.Path.{refl}
use Rattle.std.proofs.Common.{sym, ap, ◌∙◌, arith, take_at, drop_at, ltb-false}
use Rattle.std.proofs.Math.Bool.{true, false}
use Rattle.base_lists.specs.Buffers.{over}
use Rattle.base_lists.specs.Over.{over-length, take-over}
use Rattle.line_layout.specs.declared.Layout.{Layout}
use Rattle.frame_spec.specs.Told.{Told, told}
use Rattle.read_spec.specs.Judged.{Judged}
use Rattle.read_call.specs.Answers.{longest_stream, sized_told}
use Rattle.replay_spec.specs.declared.Event.{Event}
use Rattle.replay_spec.specs.declared.ReplayFault.TheVariants.{Sizes, NoRoom}
use Rattle.replay_spec.specs.declared.Replayed.{Replayed}
use Rattle.replay_spec.specs.Events.{events}
use Rattle.replay_spec.specs.Press.{Press, start, is_done, run}
use Rattle.replay_spec.specs.Answers.{judging, replayed, replayed_as, answer_of, replay_answer, replay_out}
use Rattle.replay_reading.specs.Streams.{stream-few}
use Rattle.replay_kept.specs.Promises.{Replays}
use Rattle.replay_kept.specs.Stepping.{received_in, Ended, all_done, at-fault, run-ended}

-- how many come before the event of this number: events are counted from 1
abbrev pub before : ℕ → ℕ
before n = n - 1

-- the events before the one at fault: all where none is, and none where the call is refused
abbrev pub before_fault : List ℕ → Replayed → List Event
before_fault trace r = cond (is_done r.answer) (events trace) (take (before r.event) (events trace))

-- so many bytes are what those events received, and behind them the buffer is as it was
pub record Keeps (trace o : List ℕ) (r : Replayed) (o' : List ℕ) : Type 0 where
  pub received : r.received ≡ length (received_in trace (before_fault trace r))
  pub holds : take r.received o' ≡ received_in trace (before_fault trace r)
  pub behind : drop r.received o' ≡ drop r.received o
  pub long : length o' ≡ length o
