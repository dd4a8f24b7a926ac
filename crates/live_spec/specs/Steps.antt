-- What a step answers, what the lent window and line buffer then hold, and the number of each answer: the call's refusals in their order (1, 2, 3, 4),
-- one line each, then wait or the stretch that was closed. Assumes nothing: these are definitions.
use Rattle.std.specs.Prelude.{not, cond, List, ℕ, ◌+◌, ◌-◌, ltb, length, take, replicate, Ok, Err, Some, None, Result, Option}
use Rattle.read_call.specs.declared.Answer.{Answer as ReadAnswer}
use Rattle.frame_stuff_spec.specs.Stuffing.{longest_stretch}
use Rattle.line_spec.specs.Lines.{longest}
use Rattle.frame_body.specs.Fields.{nonce_length}
use Rattle.frame_spec.specs.Told.{Told}
use Rattle.read_stretch.specs.declared.Span.{Span}
use Rattle.read_stretch.specs.Stretches.{span}
use Rattle.read_spec.specs.Judged.{Label, no_label, label_in, Judged, shape, stuffing, font, work, seal, unlisted, trade, layout, line}
use Rattle.read_readings.specs.Readings.{ends}
use Rattle.read_call.specs.declared.Asked.{Asked}
use Rattle.read_call.specs.Answers as read-answers
use Rattle.read_call.specs.Answers.{sized_told, judged_within, answer_of, line_over}
use Rattle.live_spec.specs.declared.Numbers.{Numbers}
use Rattle.live_spec.specs.declared.LiveRefusal.{LiveRefusal}
use Rattle.live_spec.specs.declared.LiveRefusal.TheVariants as answer-is
use Rattle.live_spec.specs.declared.Step.{Step}
use Rattle.live_spec.specs.Taking.{possible, Taken, taken_in}

-- as many bytes as are counted
abbrev pub most_bytes : ℕ
most_bytes = 18446744073709551615

-- what the stretch at these places is found to be, its first bytes standing at the window's start: over-long is 7, whatever they are
unfoldable pub judged_in : Told → Asked → List ℕ → Span → Judged
judged_in t a w p =
    cond (ltb longest_stretch (p.closing - p.first)) shape (judged_within t a (take (p.closing - p.first) w))

-- what a step finds: the call refused, no stretch closed, or one
pub data Found : Type 0 where
  refused : Result (Option ReadAnswer) LiveRefusal → Found
  waits : Taken → Found
  closed : Taken → Judged → Found

abbrev pub found_in : Told → Asked → Taken → Found
found_in t a k = cond (ends k.place) (waits k) (closed k (judged_in t a k.window k.place))

-- of a piece, with room for so many bytes of a line
unfoldable pub found : Told → Asked → Numbers → List ℕ → List ℕ → ℕ → Found
found t a n w p room =
    cond (not (possible n)) (refused (Err answer-is.Numbers))
    (cond (not (sized_told t)) (refused (Err answer-is.Sizes))
    (cond (ltb most_bytes (n.received + length p)) (refused (Err answer-is.TooLong))
    (cond (ltb room longest) (refused (Err answer-is.NoRoom))
    (found_in t a (taken_in n w p)))))

abbrev pub no_nonce : List ℕ
no_nonce = replicate nonce_length 0

-- the nonce that a line is given with
abbrev pub nonce_in : Judged → List ℕ
nonce_in shape = no_nonce
nonce_in stuffing = no_nonce
nonce_in font = no_nonce
nonce_in work = no_nonce
nonce_in (seal n) = no_nonce
nonce_in (unlisted n) = no_nonce
nonce_in (trade n) = no_nonce
nonce_in (layout n) = no_nonce
nonce_in (line own l n) = own.nonce

abbrev pub step : Numbers → ℕ → Span → Result (Option ReadAnswer) LiveRefusal → Label → List ℕ → Step
step n k p a b nonce = record {
  numbers = n;
  took = k;
  first = p.first;
  closing = p.closing;
  answer = a;
  edition = b.edition;
  job = b.job;
  nonce = nonce;
}

-- an answer with no reading
abbrev pub no_reading : Numbers → ℕ → Result (Option ReadAnswer) LiveRefusal → Step
no_reading n k a = step n k (span n.received n.received) a no_label no_nonce

-- what is answered for it
abbrev pub step_of : Numbers → Found → Step
step_of n (refused a) = no_reading n 0 a
step_of n (waits k) = no_reading k.behind k.took (Ok None)
step_of n (closed k j) = step k.behind k.took k.place (Ok (Some (answer_of j))) (label_in j) (nonce_in j)

-- and what window and line buffer hold then
abbrev pub window_of : List ℕ → Found → List ℕ
window_of w (refused a) = w
window_of w (waits k) = k.window
window_of w (closed k j) = k.window

abbrev pub line_of : List ℕ → Found → List ℕ
line_of o (refused a) = o
line_of o (waits k) = o
line_of o (closed k j) = line_over j o

-- the three of a step with the window w and the line buffer o
abbrev pub step_answer : Told → Asked → Numbers → List ℕ → List ℕ → List ℕ → Step
step_answer t a n w p o = step_of n (found t a n w p (length o))

abbrev pub step_window : Told → Asked → Numbers → List ℕ → List ℕ → List ℕ → List ℕ
step_window t a n w p o = window_of w (found t a n w p (length o))

abbrev pub step_line : Told → Asked → Numbers → List ℕ → List ℕ → List ℕ → List ℕ
step_line t a n w p o = line_of o (found t a n w p (length o))

-- the number of each answer: 1, 2, 3, 4; wait has the number 0, as a line has; a stretch that of `read`
abbrev pub step_number : Result (Option ReadAnswer) LiveRefusal → ℕ
step_number (Err answer-is.Numbers) = 1
step_number (Err answer-is.Sizes) = 2
step_number (Err answer-is.TooLong) = 3
step_number (Err answer-is.NoRoom) = 4
step_number (Ok None) = 0
step_number (Ok (Some a)) = read-answers.answer_number a
