-- The row of what a step gives, and how far the listing of a link is then: the row of the listing's call, counted as `lines` counts. Assumes nothing: these
-- are definitions.
use Rattle.std.specs.Prelude.{ℕ, cond, List, [], length, take, replicate, ◌==◌, nat_lt, Ok, Err, Some, None, Result, Option}
use Rattle.read_call.specs.declared.Answer.{Answer as ReadAnswer}
use Rattle.line_spec.specs.Lines.{longest}
use Rattle.line_layout.specs.declared.Layout.TheVariants.{Neither}
use Rattle.frame_spec.specs.Told.{told}
use Rattle.read_spec.specs.Editions.{one_alone}
use Rattle.read_call.specs.Answers.{answer_number, length_of}
use Rattle.tool_row.specs.Rows.{row_text, row_room}
use Rattle.tool_row.specs.declared.RowRefusal.{RowRefusal}
use Rattle.tool_row.specs.declared.RowRefusal.TheVariants as put_is
use Rattle.tool_listing.specs.Listing.{all_asked}
use Rattle.tool_listing.specs.Steps.{one_more}
use Rattle.live_spec.specs.declared.Numbers.{Numbers}
use Rattle.live_spec.specs.declared.LiveRefusal.{LiveRefusal}
use Rattle.live_spec.specs.declared.LiveRefusal.TheVariants as answer-is
use Rattle.live_spec.specs.declared.Step.{Step}
use Rattle.live_spec.specs.Taking.{no_bytes}
use Rattle.live_spec.specs.Steps.{step_answer, step_window, step_line}
use Rattle.tool_press.specs.declared.Press.{Press}
use Rattle.tool_press.specs.declared.PressRefusal.{PressRefusal}
use Rattle.tool_press.specs.declared.PressRefusal.TheVariants as pressed-is
use Rattle.tool_press.specs.declared.Turn.{Turn}

abbrev pub press_at : Numbers → ℕ → ℕ → Press
press_at n lines refused = record { numbers = n; lines = lines; refused = refused }

-- before the first byte
abbrev pub start_press : Press
start_press = press_at no_bytes 0 0

-- behind the row of a stretch with this number
unfoldable pub counted : Press → Numbers → ℕ → Press
counted c n number = cond (number == 0) (press_at n (one_more c.lines) c.refused) (press_at n c.lines (one_more c.refused))

abbrev pub turn : Press → ℕ → Result (Option ℕ) PressRefusal → Turn
turn c k a = record { press = c; took = k; answer = a }

abbrev pub rowless : Press → Numbers → ℕ → Result (Option ℕ) PressRefusal → Turn
rowless c n k a = turn (press_at n c.lines c.refused) k a

-- a row that is not written refuses the call, and so does a step that is refused
abbrev pub row_refused : RowRefusal → PressRefusal
row_refused put_is.TooLong = pressed-is.TooLong
row_refused put_is.NoRoom = pressed-is.NoRoom

abbrev pub step_refused : LiveRefusal → PressRefusal
step_refused answer-is.Numbers = pressed-is.Numbers
step_refused answer-is.Sizes = pressed-is.Sizes
step_refused answer-is.TooLong = pressed-is.TooLong
step_refused answer-is.NoRoom = pressed-is.NoRoom

-- what writing a row comes to
abbrev pub pressed_by : Result ℕ RowRefusal → Result (Option ℕ) PressRefusal
pressed_by (Err put) = Err (row_refused put)
pressed_by (Ok n) = Ok (Some n)

-- the refusal of a step that was lent no room
abbrev pub no_row : Press → Result (Option ReadAnswer) LiveRefusal → Turn
no_row c (Err step) = rowless c c.numbers 0 (Err (step_refused step))
no_row c (Ok a) = rowless c c.numbers 0 (Err pressed-is.NoRoom)

-- the length of the line that a step gives
abbrev pub length_for : Result (Option ReadAnswer) LiveRefusal → ℕ
length_for (Err f) = 0
length_for (Ok None) = 0
length_for (Ok (Some a)) = length_of a

-- the row of a stretch: the place of its first byte, its number, and its line where one is given
abbrev pub row_for : Result (Option ReadAnswer) LiveRefusal → Step → List ℕ → List ℕ
row_for (Err f) s l = []
row_for (Ok None) s l = []
row_for (Ok (Some a)) s l = row_text s.first (answer_number a) (take (length_of a) l)

abbrev pub row_of : Step → List ℕ → List ℕ
row_of s l = row_for s.answer s l

-- what a step's answer comes to
abbrev pub rowed_for : Result (Option ReadAnswer) LiveRefusal → Press → Step → List ℕ → Turn
rowed_for (Err step) c s l = rowless c s.numbers s.took (Err (step_refused step))
rowed_for (Ok None) c s l = rowless c s.numbers s.took (Ok None)
rowed_for (Ok (Some a)) c s l =
    turn (counted c s.numbers (answer_number a)) s.took (Ok (Some (length (row_for (Ok (Some a)) s l))))

abbrev pub rowed : Press → Step → List ℕ → Turn
rowed c s l = rowed_for s.answer c s l

-- the line buffer of the call's own, of so many bytes
abbrev pub own : ℕ → List ℕ
own k = replicate k 0

module _ (key font : List ℕ) (c : Press) (w p : List ℕ) where
  -- the step with it: lines of edition one, under no layout, all the work allowed
  abbrev pub step_with : ℕ → Step
  step_with k = step_answer (told key font Neither) (all_asked one_alone Neither) c.numbers w p (own k)

  abbrev pub window_with : ℕ → List ℕ
  window_with k = step_window (told key font Neither) (all_asked one_alone Neither) c.numbers w p (own k)

  abbrev pub line_with : ℕ → List ℕ
  line_with k = step_line (told key font Neither) (all_asked one_alone Neither) c.numbers w p (own k)

  -- with room for so many bytes of a row: without room for every row a step has none for a line
  unfoldable pub pressed : ℕ → Turn
  pressed room = cond (nat_lt room row_room) (no_row c (step_with 1).answer) (rowed c (step_with longest) (line_with longest))

  unfoldable pub press_window : ℕ → List ℕ
  press_window room = cond (nat_lt room row_room) (window_with 1) (window_with longest)

  unfoldable pub press_row : ℕ → List ℕ
  press_row room = cond (nat_lt room row_room) [] (row_of (step_with longest) (line_with longest))

-- the row's length, 0 where none is given
abbrev pub pressed_length : Result (Option ℕ) PressRefusal → ℕ
pressed_length (Err f) = 0
pressed_length (Ok None) = 0
pressed_length (Ok (Some n)) = n
