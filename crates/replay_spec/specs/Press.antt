-- What the press does (order W11), event by event, each case of the order's text one line. A request reads on from where the last reading ended,
-- passes over refused stretches and gives the first line it meets; if there is none it gives nothing and stays at the last closing mark passed, or
-- where it was. A given line may be printed once, before the next request. Over any way to judge a stretch's bytes.
-- Assumes nothing: these are definitions.
use Rattle.std.specs.Prelude.{Bool, true, false, cond, List, [], ◌∷◌, ◌++◌, ℕ, ◌+◌, eqb, ltb, length, Ok, Err, Result, ⊤}
use Rattle.base_lists.specs.Buffers.{same}
use Rattle.read_spec.specs.Judged.{Judged, shape, stuffing, font, work, seal, unlisted, trade, layout, line}
use Rattle.read_readings.specs.Readings.{Reading, readings}
use Rattle.read_call.specs.Answers.{longest_stream}
use Rattle.replay_spec.specs.declared.Kind.{Kind}
use Rattle.replay_spec.specs.declared.Kind.TheVariants.{Received, Asked, Printed, Bad}
use Rattle.replay_spec.specs.declared.Event.{Event}
use Rattle.replay_spec.specs.declared.ReplayFault.{ReplayFault}
use Rattle.replay_spec.specs.declared.ReplayFault.TheVariants.{Sizes, NoRoom, Field, NoLine, TooLong}
use Rattle.replay_spec.specs.Events.{bytes_of}

-- a line, or nothing
pub data Given : Type 0 where
  nothing : Given
  gives : List ℕ → Given

-- what a stretch that is judged so gives: every refusal is passed over
abbrev pub given_by : Judged → Given
given_by shape = nothing
given_by stuffing = nothing
given_by font = nothing
given_by work = nothing
given_by (seal n) = nothing
given_by (unlisted n) = nothing
given_by (trade n) = nothing
given_by (layout n) = nothing
given_by (line k l n) = gives l

-- what a request comes to, and the place where its reading ended
pub record Met : Type 0 where
  pub given : Given
  pub place : ℕ

abbrev pub met : Given → ℕ → Met
met g at = record { given = g; place = at }

-- a stretch that closes at this place gives its line there, or is passed over
abbrev pub or_else : Given → ℕ → Met → Met
or_else (gives l) at m = met (gives l) at
or_else nothing at m = m

-- the first line among readings from a place; none: the last closing mark passed, or the place
abbrev pub first_line : ℕ → List Reading → Met
first_line at [] = met nothing at
first_line at (r ∷ l) = or_else (given_by r.judged) r.place.closing (first_line r.place.closing l)

-- a request of the stream received so far, from where the last reading ended
unfoldable pub request : (List ℕ → Judged) → List ℕ → ℕ → Met
request judge s at = first_line at (readings judge s at)

-- the press: how many events there were, the stream received so far, the place where the last reading ended, the line given and unprinted, the first
-- event whose printed bytes differ, 0 for none, and whether an event was at fault
pub record Press : Type 0 where
  pub event : ℕ
  pub stream : List ℕ
  pub place : ℕ
  pub given : Given
  pub differs : ℕ
  pub answer : Result ⊤ ReplayFault

abbrev pub press : ℕ → List ℕ → ℕ → Given → ℕ → Result ⊤ ReplayFault → Press
press event stream place given differs answer =
    record { event = event; stream = stream; place = place; given = given; differs = differs; answer = answer }

-- an empty stream
abbrev pub start : Press
start = press 0 [] 0 nothing 0 (Ok tt)

abbrev pub counted : Press → Press
counted s = press (s.event + 1) s.stream s.place s.given s.differs s.answer

-- an event at fault has no other effect
abbrev pub faulty : Result ⊤ ReplayFault → Press → Press
faulty a s = press s.event s.stream s.place s.given s.differs a

-- 20: stream bytes received, unless they take the stream past its limit
unfoldable pub receive : List ℕ → Press → Press
receive v s =
    cond (ltb longest_stream (length s.stream + length v)) (faulty (Err TooLong) s)
    (press s.event (s.stream ++ v) s.place s.given s.differs s.answer)

-- 21: a line asked for; one that was given and not printed is dropped
abbrev pub after : Press → Met → Press
after s m = press s.event s.stream m.place m.given s.differs s.answer

unfoldable pub ask : (List ℕ → Judged) → Press → Press
ask judge s = after s (request judge s.stream s.place)

-- 22: bytes printed, compared whole with the line given; the first event that differs is kept
unfoldable pub first_differing : ℕ → ℕ → Bool → ℕ
first_differing differs event alike = cond (eqb differs 0) (cond alike 0 event) differs

abbrev pub print_on : Given → List ℕ → Press → Press
print_on nothing v s = faulty (Err NoLine) s
print_on (gives l) v s = press s.event s.stream s.place nothing (first_differing s.differs s.event (same v l)) s.answer

abbrev pub print : List ℕ → Press → Press
print v s = print_on s.given v s

-- an event of this kind, with its bytes
abbrev pub does : (List ℕ → Judged) → Kind → List ℕ → Press → Press
does judge Received v s = receive v s
does judge Asked v s = ask judge s
does judge Printed v s = print v s
does judge Bad v s = faulty (Err Field) s

-- one event of a trace
unfoldable pub step : (List ℕ → Judged) → List ℕ → Press → Event → Press
step judge trace s e = does judge e.kind (bytes_of trace e) (counted s)

abbrev pub is_done : Result ⊤ ReplayFault → Bool
is_done (Ok tt) = true
is_done (Err f) = false

-- the first event at fault decides: nothing is done behind it
unfoldable pub turn : (List ℕ → Judged) → List ℕ → Press → Event → Press
turn judge trace s e = cond (is_done s.answer) (step judge trace s e) s

-- events one after the other
unfoldable pub run : (List ℕ → Judged) → List ℕ → Press → List Event → Press
run judge trace s [] = s
run judge trace s (e ∷ l) = run judge trace (turn judge trace s e) l
