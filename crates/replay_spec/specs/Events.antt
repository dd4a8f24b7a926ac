-- The events of a trace (order W11): tagged fields one after the other, 20 stream bytes received, 21 a line asked for, 22 a line printed. What stands at a
-- place and is no such field is a bad event, and nothing behind it can be told. Assumes nothing: these are definitions.
use Rattle.std.specs.Prelude.{Bool, true, false, cond, List, [], ◌∷◌, ℕ, zero, suc, ◌+◌, ◌-◌, eqb, ltb, length, get_or, take, drop}
use Rattle.base_fields.specs.Fields.{head_length, Front, value, no_field, front}
use Rattle.replay_spec.specs.declared.Kind.{Kind}
use Rattle.replay_spec.specs.declared.Kind.TheVariants.{Received, Asked, Printed, Bad}
use Rattle.replay_spec.specs.declared.Event.{Event}

-- the tags (tags are hexadecimal)
abbrev pub received_tag : ℕ
received_tag = 0x20

abbrev pub asked_tag : ℕ
asked_tag = 0x21

abbrev pub printed_tag : ℕ
printed_tag = 0x22

-- the kind of event that a tag tells
unfoldable pub kind_of : ℕ → Kind
kind_of tag =
    cond (eqb tag received_tag) Received
    (cond (eqb tag asked_tag) Asked
    (cond (eqb tag printed_tag) Printed
    Bad))

-- how many bytes an event may have: a request carries none
abbrev pub rule : Kind → ℕ → Bool
rule Received n = true
rule Asked n = eqb n 0
rule Printed n = true
rule Bad n = false

unfoldable pub takes : ℕ → ℕ → Bool
takes tag n = rule (kind_of tag) n

abbrev pub event : Kind → ℕ → ℕ → Event
event k start end = record { kind = k; start = start; end = end }

-- the event of a field that stands first at a place of a trace of so many bytes
abbrev pub event_of : ℕ → ℕ → ℕ → Front → Event
event_of all at tag no_field = event Bad at all
event_of all at tag (value v rest) = event (kind_of tag) (at + head_length) (at + head_length + length v)

-- the event at a place of a trace
unfoldable pub event_at : List ℕ → ℕ → Event
event_at trace at = event_of (length trace) at (get_or trace at 0) (front takes (get_or trace at 0) (drop at trace))

-- at most n events from a place on
unfoldable pub events_in : ℕ → List ℕ → ℕ → List Event
events_in zero trace at = []
events_in (suc n) trace at = cond (ltb at (length trace)) (event_at trace at ∷ events_in n trace (event_at trace at).end) []

-- there are no more of them than the trace has bytes
unfoldable pub events : List ℕ → List Event
events trace = events_in (length trace) trace 0

-- the bytes of an event
abbrev pub bytes_of : List ℕ → Event → List ℕ
bytes_of trace e = take (e.end - e.start) (drop e.start trace)
