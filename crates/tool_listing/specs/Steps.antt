-- What one call gives from a cursor: document 01's refusals of a call in its order (2, 3, 4, 10), one line each, then nothing more behind the last row, the
-- last row at the end of the stream, or the row of the next stretch. Assumes nothing: these are definitions.
use Rattle.std.specs.Prelude.{ℕ, ◌+◌, ◌%◌, ◌^◌, ◌≤◌, Bool, true, false, cond, not, List, [], length, ◌==◌, nat_lt, Ok, Err, Some, None, Result, Option}
use Rattle.read_stretch.specs.Stretches.{next_span, next_stretch}
use Rattle.frame_spec.specs.Told.{Told}
use Rattle.read_spec.specs.Sizes.{Sizes}
use Rattle.read_readings.specs.Readings.{Reading, reading, ends}
use Rattle.read_call.specs.Answers.{longest_stream, sized_told}
use Rattle.tool_row.specs.Rows.{row_room, last_row_text}
use Rattle.tool_row.specs.declared.RowRefusal.{RowRefusal}
use Rattle.tool_row.specs.declared.RowRefusal.TheVariants as put_is
use Rattle.tool_listing.specs.Listing.{reading_row, row_number, judged_for}
use Rattle.tool_listing.specs.declared.Cursor.{Cursor}
use Rattle.tool_listing.specs.declared.ListRefusal.{ListRefusal}
use Rattle.tool_listing.specs.declared.ListRefusal.TheVariants.{TooLong, NoRoom, Beyond}
use Rattle.tool_listing.specs.declared.ListRefusal.TheVariants as listed-is
use Rattle.tool_listing.specs.declared.Step.{Step}

abbrev pub cursor_at : ℕ → ℕ → ℕ → Bool → Cursor
cursor_at place lines refused ended = record { place = place; lines = lines; refused = refused; ended = ended }

abbrev pub start_cursor : Cursor
start_cursor = cursor_at 0 0 0 false

-- counts go modulo 2^64
abbrev pub one_more : ℕ → ℕ
one_more n = (n + 1) % 2 ^ 64

-- behind the row of a stretch with this number that closes at a place
unfoldable pub counted_on : Cursor → ℕ → ℕ → Cursor
counted_on c number closing =
    cond (number == 0) (cursor_at closing (one_more c.lines) c.refused false) (cursor_at closing c.lines (one_more c.refused) false)

-- behind the last row
abbrev pub ended_at : Cursor → ℕ → Cursor
ended_at c place = cursor_at place c.lines c.refused true

-- what a call comes to, the row that it writes, and the next cursor
pub record Given : Type 0 where
  pub answer : Result (Option ℕ) ListRefusal
  pub row : List ℕ
  pub cursor : Cursor

abbrev pub refusal : Result (Option ℕ) ListRefusal → Cursor → Given
refusal a c = record { answer = a; row = []; cursor = c }

abbrev pub row_given : List ℕ → Cursor → Given
row_given w c = record { answer = Ok (Some (length w)); row = w; cursor = c }

abbrev pub step_of : Given → Step
step_of g = record { answer = g.answer; cursor = g.cursor }

-- the reading from a place where a stretch is found
abbrev pub next_reading : Told → ℕ → List ℕ → ℕ → Reading
next_reading t ed s from = reading (next_span s from) (judged_for t ed (next_stretch s from))

-- the row of a reading, which is counted, and the next cursor at its closing mark
abbrev pub reading_given : Cursor → Reading → Given
reading_given c r = row_given (reading_row r) (counted_on c (row_number r) r.place.closing)

unfoldable pub next_given : Told → ℕ → List ℕ → Cursor → Given
next_given t ed s c =
    cond (ends (next_span s c.place)) (row_given (last_row_text c.lines c.refused) (ended_at c (length s)))
    (reading_given c (next_reading t ed s c.place))

-- with room for so many bytes of a row
unfoldable pub given : Told → ℕ → List ℕ → Cursor → ℕ → Given
given t ed s c room =
    cond (not (sized_told t)) (refusal (Err listed-is.Sizes) c)
    (cond (nat_lt longest_stream (length s)) (refusal (Err TooLong) c)
    (cond (nat_lt room row_room) (refusal (Err NoRoom) c)
    (cond (nat_lt (length s) c.place) (refusal (Err Beyond) c)
    (cond c.ended (refusal (Ok None) c)
    (next_given t ed s c)))))

-- nothing of that is against a row
pub record Ready (t : Told) (s : List ℕ) (c : Cursor) (room : ℕ) : Type 0 where
  pub sizes : Sizes t
  pub short : length s ≤ longest_stream
  pub roomy : row_room ≤ room
  pub inside : c.place ≤ length s

-- a row that is not written refuses the call
abbrev pub row_refused : RowRefusal → ListRefusal
row_refused put_is.TooLong = TooLong
row_refused put_is.NoRoom = NoRoom

-- what writing a row comes to, as an answer of the call
abbrev pub listed_by : Result ℕ RowRefusal → Result (Option ℕ) ListRefusal
listed_by (Err put) = Err (row_refused put)
listed_by (Ok n) = Ok (Some n)

-- document 01's number of each answer ('Numbers returned')
abbrev pub listed_number : Result (Option ℕ) ListRefusal → ℕ
listed_number (Err listed-is.Sizes) = 2
listed_number (Err TooLong) = 3
listed_number (Err NoRoom) = 4
listed_number (Err Beyond) = 10
listed_number (Ok None) = 0
listed_number (Ok (Some n)) = 0

-- the row's length, 0 where none is given
abbrev pub listed_length : Result (Option ℕ) ListRefusal → ℕ
listed_length (Err refused) = 0
listed_length (Ok None) = 0
listed_length (Ok (Some n)) = n
