-- What the C calls of the reader take and give as structs: what is told anew, the places of a stretch, and a reading with its outcome, number, places,
-- length, count, edition and job. Assumes nothing.
use Rattle.line_layout.specs.Layouts.{layout_of}
use Rattle.read_stretch.specs.declared.Span as stretch
use Rattle.read_call.specs.Answers.{answer_number, length_of, calls_of}
use Rattle.read_call.specs.declared.Asked as told-anew
use Rattle.read_call.specs.declared.Reading as reading
use Rattle.lubdhvani.specs.declared.read.Asked.{Asked}
use Rattle.lubdhvani.specs.declared.read.Reading.{Reading}
use Rattle.lubdhvani.specs.declared.read.Span.{Span}
-- which of four a reading is, passed on
pub use Rattle.read_call.specs.Answers.{END, LINE, STRETCH-REFUSED, CALL-REFUSED, outcome_of}

abbrev pub span_out : stretch.Span → Span
span_out s = record { first = s.first; closing = s.closing }

abbrev pub asked_of : Asked → told-anew.Asked
asked_of a = record { editions = a.editions; allowed = a.allowed; layout = layout_of a.layout }

abbrev pub reading_out : reading.Reading → Reading
reading_out r = record {
  outcome = outcome_of r.answer;
  number = answer_number r.answer;
  first = r.first;
  closing = r.closing;
  length = length_of r.answer;
  calls = calls_of r.answer;
  edition = r.edition;
  job = r.job;
}
