-- What the converter answers, and what the lent buffer then holds (orders W6 and W7): 2, 4, then 7 for the stretch's length, 6, 7 for its fields, 16, 8, 5,
-- 9, 13, 17, one line each. Assumes nothing: these are definitions.
use Rattle.std.specs.Prelude.{Bool, true, false, not, cond, List, ℕ, ltb, length, Ok, Err, Result}
use Rattle.base_lists.specs.Buffers.{over}
use Rattle.frame_stuff_spec.specs.declared.UnstuffFault.{UnstuffFault}
use Rattle.frame_stuff_spec.specs.declared.UnstuffFault.TheVariants as unstuffed-is
use Rattle.frame_stuff_spec.specs.Stuffing.{unstuffed}
use Rattle.frame_stuff_spec.specs.Answers.{length_answer}
use Rattle.frame_body.specs.declared.Edition.{Edition}
use Rattle.frame_body.specs.declared.Edition.TheVariants.{One, Two}
use Rattle.frame_body.specs.Fields.{Own, Fields, fields, no_body, fields_of}
use Rattle.frame_spec.specs.Told.{Told}
use Rattle.frame_spec.specs.Frames.{frame_of}
use Rattle.frame_spec.specs.Lengths.{frame_room}
use Rattle.frame_write.specs.Answers.{sizes_right}
use Rattle.read_spec.specs.Judged.{Judged, shape, stuffing, font, work, seal, unlisted, trade, layout, line}
use Rattle.read_spec.specs.Judging.{judge_fields}
use Rattle.read_call.specs.declared.Answer.{Answer}
use Rattle.read_call.specs.declared.Answer.TheVariants as answer-is
use Rattle.read_call.specs.Answers.{answer_of, line_over, length_of, outcome_of}
use Rattle.convert_spec.specs.declared.ConvertFault.{ConvertFault}
use Rattle.convert_spec.specs.declared.ConvertFault.TheVariants as converted-is
use Rattle.convert_spec.specs.declared.Found.{Found}

-- the other edition
abbrev pub other : Edition → Edition
other One = Two
other Two = One

abbrev pub same_edition : Edition → Edition → Bool
same_edition One One = true
same_edition One Two = false
same_edition Two One = false
same_edition Two Two = true

-- fields of another edition than the one named
abbrev pub other_than : Edition → Fields → Bool
other_than named no_body = false
other_than named (fields own digest cipher T) = not (same_edition named own.edition)

-- what a stretch is found to be: not of the edition named, or as a reader judges
pub data Sorted : Type 0 where
  misnamed : Sorted
  judged : Judged → Sorted

-- by its fields: 7, 16, then 8, 5, 9, 13, 17
abbrev pub sort_fields : Told → Edition → Fields → Sorted
sort_fields t named no_body = judged shape
sort_fields t named (fields own digest cipher T) =
    cond (not (same_edition named own.edition)) misnamed
    (judged (judge_fields t (fields own digest cipher T)))

-- before them 7 for its length, 6
abbrev pub sort_stuffing : Result ℕ UnstuffFault → Sorted → Sorted
sort_stuffing (Err unstuffed-is.TooLong) j = judged shape
sort_stuffing (Err unstuffed-is.NoRoom) j = judged shape
sort_stuffing (Err unstuffed-is.Bad) j = judged stuffing
sort_stuffing (Ok n) j = j

unfoldable pub sorted : Told → Edition → List ℕ → Sorted
sorted t named s = sort_stuffing (length_answer s) (sort_fields t named (fields_of (unstuffed s)))

-- the answer for what a stretch is judged to be
abbrev pub converted_of : Answer → Result ℕ ConvertFault
converted_of answer-is.Sizes = Err converted-is.Sizes
converted_of answer-is.NoRoom = Err converted-is.NoRoom
converted_of answer-is.TooLong = Err converted-is.Shape
converted_of answer-is.Beyond = Err converted-is.Shape
converted_of answer-is.End = Err converted-is.Shape
converted_of answer-is.Shape = Err converted-is.Shape
converted_of answer-is.Work = Err converted-is.Shape
converted_of answer-is.Stuffing = Err converted-is.Stuffing
converted_of answer-is.Font = Err converted-is.Font
converted_of (answer-is.Seal n) = Err converted-is.Seal
converted_of (answer-is.Unlisted n) = Err converted-is.Unlisted
converted_of (answer-is.Trade n) = Err converted-is.Trade
converted_of (answer-is.Layout n) = Err converted-is.Layout
converted_of (answer-is.Line k n) = Ok k

-- its line, and the buffer that it is written to
abbrev pub found_of : Sorted → Found
found_of misnamed = record { answer = Err converted-is.Edition; outcome = 2; length = 0 }
found_of (judged j) = record { answer = converted_of (answer_of j); outcome = outcome_of (answer_of j); length = length_of (answer_of j) }

abbrev pub line_out : Sorted → List ℕ → List ℕ
line_out misnamed o = o
line_out (judged j) o = line_over j o

-- the answer, and the buffer afterwards
pub record ConvertCall : Type 0 where
  pub answer : Result ℕ ConvertFault
  pub frame : List ℕ

-- a refusal leaves the buffer as it was
abbrev pub refused : Result ℕ ConvertFault → List ℕ → ConvertCall
refused r frame = record { answer = r; frame = frame }

-- a line is sealed anew
abbrev pub sealed_anew : Told → Own → Judged → List ℕ → ConvertCall
sealed_anew t own shape frame = refused (Err converted-is.Shape) frame
sealed_anew t own stuffing frame = refused (Err converted-is.Stuffing) frame
sealed_anew t own font frame = refused (Err converted-is.Font) frame
sealed_anew t own work frame = refused (Err converted-is.Shape) frame
sealed_anew t own (seal n) frame = refused (Err converted-is.Seal) frame
sealed_anew t own (unlisted n) frame = refused (Err converted-is.Unlisted) frame
sealed_anew t own (trade n) frame = refused (Err converted-is.Trade) frame
sealed_anew t own (layout n) frame = refused (Err converted-is.Layout) frame
sealed_anew t own (line k L n) frame = record { answer = Ok (length (frame_of t own L)); frame = over (frame_of t own L) frame }

abbrev pub by_sort : Told → Own → Sorted → List ℕ → ConvertCall
by_sort t own misnamed frame = refused (Err converted-is.Edition) frame
by_sort t own (judged j) frame = sealed_anew t own j frame

unfoldable pub convert_call : Told → Own → List ℕ → List ℕ → ConvertCall
convert_call t own s frame =
    cond (not (sizes_right t own)) (refused (Err converted-is.Sizes) frame)
    (cond (ltb (length frame) (frame_room own.edition)) (refused (Err converted-is.NoRoom) frame)
    (by_sort t own (sorted t (other own.edition) s) frame))

-- the number of each answer (document 01, 'Numbers returned'; orders W2, W6 and W7)
abbrev pub convert_number : Result ℕ ConvertFault → ℕ
convert_number (Ok n) = 0
convert_number (Err converted-is.Sizes) = 2
convert_number (Err converted-is.NoRoom) = 4
convert_number (Err converted-is.Shape) = 7
convert_number (Err converted-is.Stuffing) = 6
convert_number (Err converted-is.Edition) = 16
convert_number (Err converted-is.Font) = 8
convert_number (Err converted-is.Seal) = 5
convert_number (Err converted-is.Unlisted) = 9
convert_number (Err converted-is.Trade) = 13
convert_number (Err converted-is.Layout) = 17

-- the frame's length, 0 on a refusal
abbrev pub length_in : Result ℕ ConvertFault → ℕ
length_in (Ok n) = n
length_in (Err f) = 0
