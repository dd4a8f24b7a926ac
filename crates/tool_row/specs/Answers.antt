-- What writing a row answers, and what the lent buffer then holds: a line that is too long (3), a buffer without room for every row (4), or the row's
-- bytes over the buffer's start. Assumes nothing: these are definitions.
use Rattle.std.specs.Prelude.{cond, List, ℕ, ltb, length, Ok, Err, Result}
use Rattle.base_lists.specs.Buffers.{over}
use Rattle.line_spec.specs.Lines.{longest}
use Rattle.tool_row.specs.Rows.{row_room, row_text}
use Rattle.tool_row.specs.declared.RowRefusal.{RowRefusal}
use Rattle.tool_row.specs.declared.RowRefusal.TheVariants.{TooLong, NoRoom}

-- the row w, where there is room
unfoldable pub put_answer : List ℕ → List ℕ → Result ℕ RowRefusal
put_answer w o = cond (ltb (length o) row_room) (Err NoRoom) (Ok (length w))

unfoldable pub put_out : List ℕ → List ℕ → List ℕ
put_out w o = cond (ltb (length o) row_room) o (over w o)

unfoldable pub row_answer : ℕ → ℕ → List ℕ → List ℕ → Result ℕ RowRefusal
row_answer place number line o = cond (ltb longest (length line)) (Err TooLong) (put_answer (row_text place number line) o)

unfoldable pub row_out : ℕ → ℕ → List ℕ → List ℕ → List ℕ
row_out place number line o = cond (ltb longest (length line)) o (put_out (row_text place number line) o)

-- document 01's number of each answer ('Numbers returned')
abbrev pub put_number : Result ℕ RowRefusal → ℕ
put_number (Err TooLong) = 3
put_number (Err NoRoom) = 4
put_number (Ok n) = 0
