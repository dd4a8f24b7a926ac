-- The parts of a step as they are handed on: what was taken in without the window, and what a stretch is found to be. Assumes nothing: these are
-- definitions.
use Rattle.std.specs.Prelude.{List, ℕ}
use Rattle.read_stretch.specs.Stretches.{span}
use Rattle.read_spec.specs.Judged.{label_in, Judged}
use Rattle.read_call.specs.Answers.{answer_of}
use Rattle.live_spec.specs.Taking.{Taken, taken}
use Rattle.live_spec.specs.Steps.{nonce_in}
use Rattle.live_call.specs.declared.Taking.{Taking}
use Rattle.live_call.specs.declared.Read.{Read}

abbrev pub taken_by : Taken → Taking
taken_by t = record { numbers = t.behind; took = t.took; first = t.place.first; closing = t.place.closing }

-- with the window again
abbrev pub taken_of : Taking → List ℕ → Taken
taken_of t w = taken t.numbers w t.took (span t.first t.closing)

abbrev pub read_of : Judged → Read
read_of j = record { answer = answer_of j; edition = (label_in j).edition; job = (label_in j).job; nonce = nonce_in j }
