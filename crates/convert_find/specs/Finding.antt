-- What the line of a stretch of the edition named comes to, and the buffer that it is written to: 16, else what a reader of that edition alone gives
-- (order W6). Assumes nothing: these are definitions.
use Rattle.std.specs.Prelude.{cond, List, ℕ, Err}
use Rattle.line_layout.specs.declared.Layout.{Layout}
use Rattle.frame_body.specs.declared.Edition.{Edition}
use Rattle.frame_spec.specs.Told.{Told}
use Rattle.read_spec.specs.Editions.{only}
use Rattle.read_spec.specs.Judging.{held}
use Rattle.read_spec.specs.Ceiling.{all_work}
use Rattle.read_call.specs.declared.Answer.{Answer}
use Rattle.read_call.specs.declared.Asked.{Asked}
use Rattle.read_call.specs.Answers.{judge_answer, judge_out, outcome_of, length_of}
use Rattle.convert_spec.specs.declared.ConvertFault.TheVariants as converted-is
use Rattle.convert_spec.specs.declared.Found.{Found}
use Rattle.convert_spec.specs.Answers.{other_than, converted_of}

-- a reader of one edition alone, with all work allowed
abbrev pub alone : Edition → Layout → Asked
alone named y = record { editions = only named; allowed = all_work; layout = y }

-- no line: the frame is not of the edition named
abbrev pub not_named : Found
not_named = record { answer = Err converted-is.Edition; outcome = 2; length = 0 }

-- what a reader's answer comes to
abbrev pub found_for : Answer → Found
found_for a = record { answer = converted_of a; outcome = outcome_of a; length = length_of a }

unfoldable pub found_in : Told → Edition → List ℕ → List ℕ → Found
found_in t named s o = cond (other_than named (held s)) not_named (found_for (judge_answer t (alone named t.layout) s o).answer)

-- the buffer afterwards
unfoldable pub line_in : Told → Edition → List ℕ → List ℕ → List ℕ
line_in t named s o = cond (other_than named (held s)) o (judge_out t (alone named t.layout) s o)
