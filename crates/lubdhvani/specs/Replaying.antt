-- What the C calls of a replay answer as structs: the number with the event and what was received, and what stood at an event. Assumes nothing.
use Rattle.std.specs.Prelude.{ℕ, replicate}
use Rattle.replay_spec.specs.declared.Replayed as replaying
use Rattle.replay_spec.specs.declared.Stood as standing
use Rattle.replay_spec.specs.Answers.{replay_number}
use Rattle.lubdhvani.specs.declared.replay.Replayed.{Replayed}
use Rattle.lubdhvani.specs.declared.replay.Stood.{Stood}

abbrev pub replayed_out : replaying.Replayed → Replayed
replayed_out a = record { number = replay_number a.answer; event = a.event; received = a.received }

-- the zeros behind a line that make it whole numbers of the machine
abbrev pub behind_line : ℕ
behind_line = 7

abbrev pub stood_as : standing.Stood → Stood
stood_as a = record {
  number = replay_number a.answer;
  length = a.length;
  place = a.place;
  printed = a.printed;
  received = a.received;
  line = a.line;
  zeros = replicate behind_line 0;
}
