-- What the C call that accepts a stream answers as a struct: its number and the two places. Assumes nothing.
use Rattle.accept_spec.specs.declared.Accepted as accepting
use Rattle.accept_spec.specs.Accepting.{accept_number}
use Rattle.lubdhvani.specs.declared.accept.Accepted.{Accepted}

abbrev pub accepted_out : accepting.Accepted → Accepted
accepted_out a = record { number = accept_number a.answer; first = a.first; closing = a.closing }
