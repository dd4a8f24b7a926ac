-- The numbers of what `read` answers, put together from read_call's definitions of each. Assumes nothing: these are definitions.
use Rattle.std.specs.Prelude.{ℕ}
use Rattle.read_call.specs.declared.Answer.{Answer}
use Rattle.read_call.specs.Answers.{answer_number, outcome_of, length_of, calls_of}
use Rattle.read_numbers.specs.declared.Report.{Report}

abbrev pub report : ℕ → ℕ → ℕ → ℕ → Report
report number outcome length calls = record { number = number; outcome = outcome; length = length; calls = calls }

abbrev pub report_of : Answer → Report
report_of a = report (answer_number a) (outcome_of a) (length_of a) (calls_of a)
