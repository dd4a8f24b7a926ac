-- What `replay` and `stood` answer, and what the lent buffer then holds (order W11): 2, then 4, then the first event at fault, one line each. Every
-- stretch is allowed all the work it takes. Assumes nothing: these are definitions.
use Rattle.std.specs.Prelude.{not, cond, List, [], ◌∷◌, ℕ, zero, suc, ◌-◌, ltb, length, take, drop, replicate, Ok, Err, Result, ⊤}
use Rattle.base_lists.specs.Buffers.{over}
use Rattle.line_spec.specs.Lines.{longest}
use Rattle.line_layout.specs.declared.Layout.{Layout}
use Rattle.frame_spec.specs.Told.{Told}
use Rattle.read_spec.specs.Judged.{Judged}
use Rattle.read_spec.specs.Ceiling.{all_work}
use Rattle.read_call.specs.declared.Asked as what
use Rattle.read_call.specs.Answers.{longest_stream, sized_told, judged_within}
use Rattle.replay_spec.specs.declared.Kind.{Kind}
use Rattle.replay_spec.specs.declared.Kind.TheVariants.{Received, Asked, Printed, Bad}
use Rattle.replay_spec.specs.declared.Event.{Event}
use Rattle.replay_spec.specs.declared.ReplayFault.{ReplayFault}
use Rattle.replay_spec.specs.declared.ReplayFault.TheVariants.{Sizes, NoRoom, Field, NoLine, TooLong}
use Rattle.replay_spec.specs.declared.Replayed.{Replayed}
use Rattle.replay_spec.specs.declared.Stood.{Stood}
use Rattle.replay_spec.specs.Events.{events}
use Rattle.replay_spec.specs.Press.{Given, nothing, gives, Press, start, is_done, run}

-- what the reader is asked: these editions, this layout, and all the work allowed
abbrev pub all_asked : ℕ → Layout → what.Asked
all_asked ed l = record { editions = ed; allowed = all_work; layout = l }

-- how a stretch is judged
unfoldable pub judging : Told → ℕ → List ℕ → Judged
judging t ed s = judged_within t (all_asked ed t.layout) s

-- the press after a whole trace, and after its first n events
unfoldable pub replayed : Told → ℕ → List ℕ → Press
replayed t ed trace = run (judging t ed) trace start (events trace)

unfoldable pub replayed_to : ℕ → Told → ℕ → List ℕ → Press
replayed_to n t ed trace = run (judging t ed) trace start (take n (events trace))

abbrev pub replayed_as : Result ⊤ ReplayFault → ℕ → ℕ → Replayed
replayed_as a event received = record { answer = a; event = event; received = received }

-- a fault after a difference is the fault alone
abbrev pub answer_of : Press → Replayed
answer_of s = replayed_as s.answer (cond (is_done s.answer) s.differs s.event) (length s.stream)

unfoldable pub replay_answer : Told → ℕ → List ℕ → List ℕ → Replayed
replay_answer t ed trace o =
    cond (not (sized_told t)) (replayed_as (Err Sizes) 0 0)
    (cond (ltb (length o) longest_stream) (replayed_as (Err NoRoom) 0 0)
    (answer_of (replayed t ed trace)))

-- the buffer keeps what was received before a fault
unfoldable pub replay_out : Told → ℕ → List ℕ → List ℕ → List ℕ
replay_out t ed trace o =
    cond (not (sized_told t)) o
    (cond (ltb (length o) longest_stream) o
    (over (replayed t ed trace).stream o))

abbrev pub zeros : List ℕ
zeros = replicate longest 0

-- nothing stood at an event
abbrev pub none_stood : Result ⊤ ReplayFault → ℕ → Stood
none_stood a received = record { answer = a; length = 0; line = zeros; place = 0; printed = 0; received = received }

-- a line l was given, and bytes from a place of the trace on were printed, so many
abbrev pub line_stood : List ℕ → ℕ → ℕ → ℕ → Stood
line_stood l place printed received =
    record { answer = Ok tt; length = length l; line = over l zeros; place = place; printed = printed; received = received }

-- of an event of this kind: only a print with a line given has one
abbrev pub stood_for : Kind → Event → Given → ℕ → Stood
stood_for Received e g n = none_stood (Ok tt) n
stood_for Asked e g n = none_stood (Ok tt) n
stood_for Printed e nothing n = none_stood (Ok tt) n
stood_for Printed e (gives l) n = line_stood l e.start (e.end - e.start) n
stood_for Bad e g n = none_stood (Ok tt) n

-- the press before an event, and that event with those behind it
abbrev pub stood_of : Press → List Event → Stood
stood_of s [] = none_stood (Ok tt) (length s.stream)
stood_of s (e ∷ l) = cond (is_done s.answer) (stood_for e.kind e s.given (length s.stream)) (none_stood (Ok tt) (length s.stream))

-- events are counted from 1; event 0 has none before it
abbrev pub stood_at : ℕ → Told → ℕ → List ℕ → Stood
stood_at zero t ed trace = none_stood (Ok tt) 0
stood_at (suc n) t ed trace = stood_of (replayed_to n t ed trace) (drop n (events trace))

unfoldable pub stood_answer : Told → ℕ → List ℕ → ℕ → List ℕ → Stood
stood_answer t ed trace n o =
    cond (not (sized_told t)) (none_stood (Err Sizes) 0)
    (cond (ltb (length o) longest_stream) (none_stood (Err NoRoom) 0)
    (stood_at n t ed trace))

-- what was received before that event
unfoldable pub stood_out : Told → ℕ → List ℕ → ℕ → List ℕ → List ℕ
stood_out t ed trace n o =
    cond (not (sized_told t)) o
    (cond (ltb (length o) longest_stream) o
    (over (replayed_to (n - 1) t ed trace).stream o))

-- the number of each answer (document 01, 'Numbers returned'; order W11)
abbrev pub replay_number : Result ⊤ ReplayFault → ℕ
replay_number (Ok tt) = 0
replay_number (Err Sizes) = 2
replay_number (Err NoRoom) = 4
replay_number (Err Field) = 20
replay_number (Err NoLine) = 21
replay_number (Err TooLong) = 3
