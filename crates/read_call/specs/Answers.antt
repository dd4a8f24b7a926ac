-- What `read` answers, with its places, and what the lent line buffer then holds: document 01's refusals of a call in its order (2, 3, 4, 10), one line
-- each, then the end of the stream or the next stretch. Assumes nothing.
use Rattle.std.specs.Prelude.{◌≡◌, refl, Bool, false, not, cond, List, ℕ, eqb, ltb, length, Ok, Err, Result}
use Rattle.base_lists.specs.Buffers.{over}
use Rattle.read_stretch.specs.declared.Span.{Span}
use Rattle.read_stretch.specs.Stretches.{span, next_span, next_stretch}
use Rattle.line_spec.specs.Lines.{longest}
use Rattle.frame_spec.specs.Told.{key_length, Told}
use Rattle.frame_body.specs.Fields.{digest_length}
use Rattle.read_call.specs.declared.Asked.{Asked}
use Rattle.read_call.specs.declared.Answer.{Answer}
use Rattle.read_call.specs.declared.Reading.{Reading}
use Rattle.read_call.specs.declared.Verdict.{Verdict}
use Rattle.read_call.specs.declared.Answer.TheVariants as answer-is
use Rattle.frame_stuff_spec.specs.declared.UnstuffFault.{UnstuffFault}
use Rattle.frame_stuff_spec.specs.declared.UnstuffFault.TheVariants as unstuffed-is
use Rattle.read_bar.specs.declared.Bar.{Bar}
use Rattle.read_bar.specs.declared.Bar.TheVariants as bar-is
use Rattle.read_open.specs.declared.OpenFault.{OpenFault}
use Rattle.read_open.specs.declared.OpenFault.TheVariants as found-is
use Rattle.read_open.specs.Opened.{found_number}
use Rattle.read_spec.specs.Judged.{Label, Judged, shape, stuffing, font, work, seal, unlisted, trade, layout, line, label_in}
use Rattle.read_readings.specs.Readings.{ends}
use Rattle.read_spec.specs.Judging.{judge}
use Rattle.read_spec.specs.Ceiling.{within}

-- the longest stream in bytes (document 01, number 3)
abbrev pub longest_stream : ℕ
longest_stream = 65536

-- key and font digest have their sizes (number 2)
unfoldable pub sized_told : Told → Bool
sized_told t = cond (eqb (length t.key) key_length) (eqb (length t.font) digest_length) false

-- what a call finds: the call refused or the end of the stream, with the one place that it reports, or a stretch
pub data Found : Type 0 where
  call : ℕ → Answer → Found
  stretch : Span → Judged → Found

-- a stretch judged among the editions and within the work allowed
unfoldable pub judged_within : Told → Asked → List ℕ → Judged
judged_within t a s = within a.allowed (judge t a.editions s)

-- of a stream from a place, with room for so many bytes of a line
unfoldable pub found : Told → Asked → List ℕ → ℕ → ℕ → Found
found t a s from room =
    cond (not (sized_told t)) (call from answer-is.Sizes)
    (cond (ltb longest_stream (length s)) (call from answer-is.TooLong)
    (cond (ltb room longest) (call from answer-is.NoRoom)
    (cond (ltb (length s) from) (call from answer-is.Beyond)
    (cond (ends (next_span s from)) (call (length s) answer-is.End)
    (stretch (next_span s from) (judged_within t a (next_stretch s from)))))))

-- the answer for a stretch
abbrev pub answer_of : Judged → Answer
answer_of shape = answer-is.Shape
answer_of stuffing = answer-is.Stuffing
answer_of font = answer-is.Font
answer_of work = answer-is.Work
answer_of (seal n) = answer-is.Seal n
answer_of (unlisted n) = answer-is.Unlisted n
answer_of (trade n) = answer-is.Trade n
answer_of (layout n) = answer-is.Layout n
answer_of (line own l n) = answer-is.Line (length l) n

-- a line is written over the buffer's start; nothing else is written
abbrev pub line_over : Judged → List ℕ → List ℕ
line_over shape o = o
line_over stuffing o = o
line_over font o = o
line_over work o = o
line_over (seal n) o = o
line_over (unlisted n) o = o
line_over (trade n) o = o
line_over (layout n) o = o
line_over (line own l n) o = over l o

-- an answer with no edition and no job
abbrev pub plain : Answer → Verdict
plain a = record { answer = a; edition = 0; job = 0 }

-- the answer for a stretch, with the edition and the job that a line is given with (order W6)
abbrev pub verdict_of : Judged → Verdict
verdict_of j = record { answer = answer_of j; edition = (label_in j).edition; job = (label_in j).job }

-- the answer where a line that was opened is not given
abbrev pub answer_to : OpenFault → Answer
answer_to found-is.Sizes = answer-is.Shape
answer_to (found-is.Seal calls) = answer-is.Seal calls
answer_to (found-is.Unlisted calls) = answer-is.Unlisted calls
answer_to (found-is.Trade calls) = answer-is.Trade calls
answer_to (found-is.Layout calls) = answer-is.Layout calls

-- where a body is barred from being opened
abbrev pub barred_answer : Bar → Answer
barred_answer bar-is.Edition = answer-is.Shape
barred_answer bar-is.Font = answer-is.Font
barred_answer bar-is.Work = answer-is.Work

-- where a stretch holds no body
abbrev pub stuffing_answer : UnstuffFault → Answer
stuffing_answer unstuffed-is.TooLong = answer-is.Shape
stuffing_answer unstuffed-is.Bad = answer-is.Stuffing
stuffing_answer unstuffed-is.NoRoom = answer-is.Shape

-- the answer for what opening a sealed line of n bytes finds; sizes are right where it is called, so it is never refused
abbrev pub verdict_on : Label → ℕ → Result ℕ OpenFault → Verdict
verdict_on k n (Err fault) = plain (answer_to fault)
verdict_on k n (Ok calls) = record { answer = answer-is.Line n calls; edition = k.edition; job = k.job }

-- with its places
abbrev pub reading_at : Span → Verdict → Reading
reading_at p v = record { first = p.first; closing = p.closing; answer = v.answer; edition = v.edition; job = v.job }

-- what a call reports: refused, or at the end, one place for both
abbrev pub reading_of : Found → Reading
reading_of (call at a) = reading_at (span at at) (plain a)
reading_of (stretch p j) = reading_at p (verdict_of j)

-- what judging a stretch that is handed in comes to: 2, 4, then the stretch's own
unfoldable pub judge_answer : Told → Asked → List ℕ → List ℕ → Verdict
judge_answer t a s o =
    cond (not (sized_told t)) (plain answer-is.Sizes)
    (cond (ltb (length o) longest) (plain answer-is.NoRoom)
    (verdict_of (judged_within t a s)))

unfoldable pub judge_out : Told → Asked → List ℕ → List ℕ → List ℕ
judge_out t a s o = cond (not (sized_told t)) o (cond (ltb (length o) longest) o (line_over (judged_within t a s) o))

-- what the line buffer holds then
abbrev pub buffer : Found → List ℕ → List ℕ
buffer (call at a) o = o
buffer (stretch p j) o = line_over j o

-- the two of a call of `read` with the line buffer o
abbrev pub read_answer : Told → Asked → List ℕ → ℕ → List ℕ → Reading
read_answer t a s from o = reading_of (found t a s from (length o))

abbrev pub read_out : Told → Asked → List ℕ → ℕ → List ℕ → List ℕ
read_out t a s from o = buffer (found t a s from (length o)) o

-- the number of each answer (document 01, 'Numbers returned'; orders W2, W5 and W7)
abbrev pub answer_number : Answer → ℕ
answer_number answer-is.Sizes = 2
answer_number answer-is.TooLong = 3
answer_number answer-is.NoRoom = 4
answer_number answer-is.Beyond = 10
answer_number answer-is.End = 0
answer_number answer-is.Shape = 7
answer_number answer-is.Stuffing = 6
answer_number answer-is.Font = 8
answer_number answer-is.Work = 15
answer_number (answer-is.Seal n) = 5
answer_number (answer-is.Unlisted n) = 9
answer_number (answer-is.Trade n) = 13
answer_number (answer-is.Layout n) = 17
answer_number (answer-is.Line k n) = 0

-- the line's length, 0 where none is given
abbrev pub length_of : Answer → ℕ
length_of answer-is.Sizes = 0
length_of answer-is.TooLong = 0
length_of answer-is.NoRoom = 0
length_of answer-is.Beyond = 0
length_of answer-is.End = 0
length_of answer-is.Shape = 0
length_of answer-is.Stuffing = 0
length_of answer-is.Font = 0
length_of answer-is.Work = 0
length_of (answer-is.Seal n) = 0
length_of (answer-is.Unlisted n) = 0
length_of (answer-is.Trade n) = 0
length_of (answer-is.Layout n) = 0
length_of (answer-is.Line k n) = k

-- the count of the calls of the permutation
abbrev pub calls_of : Answer → ℕ
calls_of answer-is.Sizes = 0
calls_of answer-is.TooLong = 0
calls_of answer-is.NoRoom = 0
calls_of answer-is.Beyond = 0
calls_of answer-is.End = 0
calls_of answer-is.Shape = 0
calls_of answer-is.Stuffing = 0
calls_of answer-is.Font = 0
calls_of answer-is.Work = 0
calls_of (answer-is.Seal n) = n
calls_of (answer-is.Unlisted n) = n
calls_of (answer-is.Trade n) = n
calls_of (answer-is.Layout n) = n
calls_of (answer-is.Line k n) = n

-- which of the four a reading is: the end of the stream, a line, a stretch refused, the call refused
abbrev pub END : ℕ
END = 0

abbrev pub LINE : ℕ
LINE = 1

abbrev pub STRETCH-REFUSED : ℕ
STRETCH-REFUSED = 2

abbrev pub CALL-REFUSED : ℕ
CALL-REFUSED = 3

abbrev pub outcome_of : Answer → ℕ
outcome_of answer-is.End = END
outcome_of (answer-is.Line k n) = LINE
outcome_of answer-is.Shape = STRETCH-REFUSED
outcome_of answer-is.Stuffing = STRETCH-REFUSED
outcome_of answer-is.Font = STRETCH-REFUSED
outcome_of answer-is.Work = STRETCH-REFUSED
outcome_of (answer-is.Seal n) = STRETCH-REFUSED
outcome_of (answer-is.Unlisted n) = STRETCH-REFUSED
outcome_of (answer-is.Trade n) = STRETCH-REFUSED
outcome_of (answer-is.Layout n) = STRETCH-REFUSED
outcome_of answer-is.Sizes = CALL-REFUSED
outcome_of answer-is.TooLong = CALL-REFUSED
outcome_of answer-is.NoRoom = CALL-REFUSED
outcome_of answer-is.Beyond = CALL-REFUSED

-- what opening a sealed line finds has its number
pub verdict-number : (k : Label) (n : ℕ) (f : Result ℕ OpenFault) → (found_number f ≡ found_number (Err found-is.Sizes) → ⊥)
    → answer_number (verdict_on k n f).answer ≡ found_number f
verdict-number k n (Err found-is.Sizes) h = absurd (h refl)
verdict-number k n (Err (found-is.Seal calls)) h = refl
verdict-number k n (Err (found-is.Unlisted calls)) h = refl
verdict-number k n (Err (found-is.Trade calls)) h = refl
verdict-number k n (Err (found-is.Layout calls)) h = refl
verdict-number k n (Ok calls) h = refl
