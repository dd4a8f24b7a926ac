-- The order of the refusals (order W11), from the promise of `replay` alone: 2, then 4, with the buffer as it was; then the first event at fault decides, even
-- after a difference, for what it is at fault (`first-decides`). Assumes nothing.
use Rattle.std.specs.Prelude.{◌≡◌, Bool, cond, List, ◌∷◌, ◌++◌, ℕ, ◌+◌, ltb, length}
use Rattle.std.proofs.Math.Path.{refl}
use Rattle.std.proofs.Common.{sym, ap, ap₂, arith}
use Rattle.std.proofs.Math.Bool.{true, false, not}
use Rattle.base_lists.specs.Buffers.{over}
use Rattle.line_layout.specs.declared.Layout.{Layout}
use Rattle.frame_spec.specs.Told.{Told, told}
use Rattle.read_call.specs.Answers.{longest_stream, sized_told}
use Rattle.replay_spec.specs.declared.Event.{Event}
use Rattle.replay_spec.specs.declared.ReplayFault.{ReplayFault}
use Rattle.replay_spec.specs.declared.Replayed.{Replayed}
use Rattle.replay_spec.specs.Events.{events}
use Rattle.replay_spec.specs.Press.{start, is_done, run}
use Rattle.replay_spec.specs.Answers.{judging, replayed, replayed_as, answer_of, replay_answer, replay_out, replay_number}
use Rattle.replay_kept.specs.Promises.{Replays}
use Rattle.replay_kept.specs.Stepping.{Fault, Ended, all_done, at-fault, run-ended}

-- before any event: key and font digest of their sizes, and a buffer with room for a stream
abbrev pub refusal : Bool → Bool → ℕ
refusal sized room = cond (not sized) 2 (cond (not room) 4 0)

abbrev pub has_room : List ℕ → Bool
has_room o = not (ltb (length o) longest_stream)
