-- What one stretch is found to be, with the number, line and count for each case (document 01, 'Numbers returned'; orders W2 and W7).
-- Assumes nothing: these are definitions.
use Rattle.std.specs.Prelude.{List, [], ℕ}
use Rattle.frame_body.specs.Fields.{Own}
use Rattle.frame_body.specs.Answers.{edition_number}
use Rattle.frame_body.specs.Job.{job_number}

-- what a line is given with (order W6): its edition's number and its job's; both zero where no line is given
pub record Label : Type 0 where
  pub edition : ℕ
  pub job : ℕ

abbrev pub label : ℕ → ℕ → Label
label edition job = record { edition = edition; job = job }

abbrev pub no_label : Label
no_label = label 0 0

-- those of what is a frame's own
abbrev pub label_of : Own → Label
label_of own = label (edition_number own.edition) (job_number own.job)

-- 7, 6, 8, 15; 5, 9, 13 and 17 with the calls of the permutation made; a line with what is its frame's own (edition, nonce, job) and them
pub data Judged : Type 0 where
  shape : Judged
  stuffing : Judged
  font : Judged
  work : Judged
  seal : ℕ → Judged
  unlisted : ℕ → Judged
  trade : ℕ → Judged
  layout : ℕ → Judged
  line : Own → List ℕ → ℕ → Judged

abbrev pub number_in : Judged → ℕ
number_in shape = 7
number_in stuffing = 6
number_in font = 8
number_in work = 15
number_in (seal n) = 5
number_in (unlisted n) = 9
number_in (trade n) = 13
number_in (layout n) = 17
number_in (line own l n) = 0

-- the line given, empty where none is
abbrev pub line_in : Judged → List ℕ
line_in shape = []
line_in stuffing = []
line_in font = []
line_in work = []
line_in (seal n) = []
line_in (unlisted n) = []
line_in (trade n) = []
line_in (layout n) = []
line_in (line own l n) = l

-- the label that it is given with, which is all that a caller is told of its frame
abbrev pub label_in : Judged → Label
label_in shape = no_label
label_in stuffing = no_label
label_in font = no_label
label_in work = no_label
label_in (seal n) = no_label
label_in (unlisted n) = no_label
label_in (trade n) = no_label
label_in (layout n) = no_label
label_in (line own l n) = label_of own

-- the count: 0 on every refusal but 5, 9, 13 and 17
abbrev pub calls_in : Judged → ℕ
calls_in shape = 0
calls_in stuffing = 0
calls_in font = 0
calls_in work = 0
calls_in (seal n) = n
calls_in (unlisted n) = n
calls_in (trade n) = n
calls_in (layout n) = n
calls_in (line own l n) = n
