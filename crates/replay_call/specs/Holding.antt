-- How the state of a replay stands for the press: the stream is the first bytes of the lent buffer, the line given is the first bytes of the state's line.
-- Assumes nothing: these are definitions.
use Rattle.std.specs.Prelude.{◌≡◌, Bool, true, false, not, cond, List, ℕ, ◌+◌, ◌-◌, ◌≤◌, eqb, ltb, length, take, drop, Ok, Err, Result, ⊤}
use Rattle.base_lists.specs.Buffers.{over, same}
use Rattle.read_spec.specs.Judged.{Judged}
use Rattle.frame_body.specs.Fields.{digest_length}
use Rattle.frame_spec.specs.Told.{key_length}
use Rattle.read_call.specs.Answers.{longest_stream}
use Rattle.replay_spec.specs.declared.Kind.{Kind}
use Rattle.replay_spec.specs.declared.Kind.TheVariants.{Received, Asked, Printed, Bad}
use Rattle.replay_spec.specs.declared.Event.{Event}
use Rattle.replay_spec.specs.declared.ReplayFault.{ReplayFault}
use Rattle.replay_spec.specs.declared.ReplayFault.TheVariants.{Sizes, NoRoom, NoLine}
use Rattle.replay_spec.specs.declared.Stood.{Stood}
use Rattle.replay_spec.specs.Events.{event_at, events_in, events}
use Rattle.replay_spec.specs.Press.{Given, nothing, gives, Press, press, start, is_done, first_differing, run}
use Rattle.replay_spec.specs.Answers.{zeros, none_stood}
use Rattle.replay_call.specs.declared.State.{State}

-- what refuses a call before any event, by the lengths of key, font digest and buffer: 2, then 4
abbrev pub are_sized : ℕ → ℕ → Bool
are_sized key font = cond (eqb key key_length) (eqb font digest_length) false

unfoldable pub refusal_of : ℕ → ℕ → ℕ → Result ⊤ ReplayFault
refusal_of key font room =
    cond (not (are_sized key font)) (Err Sizes)
    (cond (ltb room longest_stream) (Err NoRoom)
    (Ok tt))

abbrev pub held_given : Bool → List ℕ → Given
held_given true l = gives l
held_given false l = nothing

-- the press that a state stands for, with this buffer
abbrev pub held : State → List ℕ → Press
held c b =
    press c.event (take c.received b) c.place (held_given c.unprinted (take c.length c.line)) c.differs c.answer

abbrev pub state_of : ℕ → ℕ → ℕ → ℕ → Bool → ℕ → List ℕ → ℕ → Result ⊤ ReplayFault → State
state_of at event received place unprinted n line differs answer = record {
  at = at;
  event = event;
  received = received;
  place = place;
  unprinted = unprinted;
  length = n;
  line = line;
  differs = differs;
  answer = answer;
}

abbrev pub begun : State
begun = state_of 0 0 0 0 false 0 zeros 0 (Ok tt)

abbrev pub failed : Result ⊤ ReplayFault → State → State
failed a c = state_of c.at c.event c.received c.place c.unprinted c.length c.line c.differs a

-- bytes printed
unfoldable pub printed_by : List ℕ → State → State
printed_by v c =
    cond (not c.unprinted) (failed (Err NoLine) c)
    (state_of c.at c.event c.received c.place false c.length c.line (first_differing c.differs c.event (same v (take c.length c.line)))
    c.answer)

-- what every state of a replay has
pub record Sound (c : State) (b : List ℕ) : Type 0 where
  pub room : longest_stream ≤ length b
  pub few : c.received ≤ longest_stream
  pub short : c.length ≤ length c.line
  pub padded : c.line ≡ over (take c.length c.line) zeros

-- from the state c with the buffer b to c' with b', which stands for the press a at a place of the trace; behind the stream the buffer stays
pub record Kept (a : Press) (c : State) (at : ℕ) (b : List ℕ) (c' : State) (b' : List ℕ) : Type 0 where
  pub is : held c' b' ≡ a
  pub there : c'.at ≡ at
  pub more : c.received ≤ c'.received
  pub long : length b' ≡ length b
  pub behind : drop c'.received b' ≡ drop c'.received b
  pub sound : Sound c' b'

-- the events that are left, from the place of a state on
pub record Left (trace : List ℕ) (n at : ℕ) : Type 0 where
  pub fuel : ℕ
  pub enough : length trace ≤ at + fuel
  pub rest : drop n (events trace) ≡ events_in fuel trace at

-- after the first n events of a trace, with the buffer o before them
pub record Ran (judge : List ℕ → Judged) (trace : List ℕ) (n : ℕ) (o : List ℕ) (c : State) (b : List ℕ) : Type 0 where
  pub is : held c b ≡ run judge trace start (take n (events trace))
  pub out : b ≡ over (run judge trace start (take n (events trace))).stream o
  pub sound : Sound c b
  pub left : is_done c.answer ≡ true → Left trace n c.at

-- what stands at the next event
abbrev pub stood_by : Kind → Event → State → Stood
stood_by Received e c = none_stood (Ok tt) c.received
stood_by Asked e c = none_stood (Ok tt) c.received
stood_by Printed e c = record {
  answer = Ok tt;
  length = c.length;
  line = c.line;
  place = e.start;
  printed = e.end - e.start;
  received = c.received;
}
stood_by Bad e c = none_stood (Ok tt) c.received

unfoldable pub stood_next : List ℕ → State → Stood
stood_next trace c =
    cond (not (is_done c.answer)) (none_stood (Ok tt) c.received)
    (cond (not (ltb c.at (length trace))) (none_stood (Ok tt) c.received)
    (cond (not c.unprinted) (none_stood (Ok tt) c.received)
    (stood_by (event_at trace c.at).kind (event_at trace c.at) c)))
