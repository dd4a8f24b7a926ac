-- `differs-exactly` (order W11), from the promise of `replay` alone: where the number is 0, the event named is the first print whose bytes are not the line
-- given, and event 0 means that there is none. Assumes nothing.
use Rattle.std.specs.Prelude.{◌≡◌, Bool, true, false, not, cond, ltb, length}
use Rattle.std.proofs.Math.Path.{refl, sym, subst}
use Rattle.std.proofs.Common.{ap, ◌∙◌, arith, ne_eqb}
use mathlib.Core.List.{List, [], ◌∷◌, ◌++◌, head-eq_of_cons-eq, tail-eq_of_cons-eq}
use Prim.Native.Nat.{ℕ, ◌+◌}
use Rattle.base_lists.specs.Never.{never}
use Rattle.base_lists.specs.Buffers.{same}
use Rattle.base_lists.specs.Sameness.{same_refl, same-eq}
use Rattle.line_layout.specs.declared.Layout.{Layout}
use Rattle.frame_spec.specs.Told.{Told, told}
use Rattle.read_spec.specs.Judged.{Judged}
use Rattle.read_call.specs.Answers.{longest_stream, sized_told}
use Rattle.replay_spec.specs.declared.Kind.{Kind}
use Rattle.replay_spec.specs.declared.Kind.TheVariants.{Received, Asked, Printed, Bad}
use Rattle.replay_spec.specs.declared.Event.{Event}
use Rattle.replay_spec.specs.declared.ReplayFault.{ReplayFault}
use Rattle.replay_spec.specs.declared.Replayed.{Replayed}
use Rattle.replay_spec.specs.Events.{events, bytes_of}
use Rattle.replay_spec.specs.Press.{Given, nothing, gives, Press, press, start, counted, faulty, receive, ask, first_differing, print_on, does, is_done, step, turn, run}
use Rattle.replay_spec.specs.Runs.{step_counts, turn-done}
use Rattle.replay_spec.specs.Answers.{judging, replayed, replayed_as, answer_of, replay_answer, replay_number}
use Rattle.replay_kept.specs.Promises.{Replays}
use Rattle.replay_kept.specs.Stepping.{done-before}

-- the number of the event behind some others, from a press on
abbrev pub number_behind : Press → List Event → ℕ
number_behind s b = s.event + length b + 1
