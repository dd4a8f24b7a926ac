-- With room for every row, and a line no longer than lines are, a row is written whole. Assumes nothing.
use Rattle.std.specs.Prelude.{◌≡◌, refl, List, ℕ, ◌≤◌, length, Ok}
use Rattle.std.proofs.Common.{le-ltb}
use Rattle.base_lists.specs.Buffers.{over}
use Rattle.line_spec.specs.Lines.{longest}
use Rattle.tool_row.specs.Rows.{row_text, row_room}
use Rattle.tool_row.specs.Answers.{put_answer, put_out, row_answer, row_out}

pub put-done : (w o : List ℕ) → row_room ≤ length o → (put_answer w o ≡ Ok (length w)) × (put_out w o ≡ over w o)
unfolding put_answer put_out
put-done w o h = rw (le-ltb (length o) row_room h) (refl, refl)

pub row_done : (place number : ℕ) (line o : List ℕ) → length line ≤ longest → row_room ≤ length o
    → (row_answer place number line o ≡ Ok (length (row_text place number line))) × (row_out place number line o ≡ over (row_text place number line) o)
unfolding row_answer row_out
row_done place number line o g h = rw (le-ltb longest (length line) g) (put-done (row_text place number line) o h)
