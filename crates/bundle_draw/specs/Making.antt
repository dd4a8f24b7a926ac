-- The bundle of a drawing: what name and rows a text draws, whether it is their drawing, and what `make` answers. Assumes nothing: these are
-- definitions.
use Rattle.std.specs.Prelude.{cond, List, [], ◌∷◌, ℕ, zero, suc, ◌+◌, ◌-◌, ◌*◌, ◌/◌, eqb, leb, ltb, length, get_or, Ok, Err, Result}
use Rattle.bundle_spec.specs.Bundles.{longest_name, all_rows}
use Rattle.bundle_write.specs.declared.BundleRefusal.{BundleRefusal}
use Rattle.bundle_write.specs.declared.BundleRefusal.TheVariants as written_is
use Rattle.bundle_write.specs.Answers.{write_answer, write_out}
use Rattle.bundle_dots.specs.Lines.{newline, printed, line_length}
use Rattle.bundle_dots.specs.Faults.{fault}
use Rattle.bundle_draw.specs.Drawing.{name_line_length, char_at, drawing_length, listed}
use Rattle.bundle_draw.specs.declared.DrawingFault.{DrawingFault}
use Rattle.bundle_draw.specs.declared.DrawingFault.TheVariants.{Row, Alike, NoRoom}

-- where the first line of a text ends: the place of its newline, or the text's length
unfoldable pub end_of : List ℕ → ℕ
end_of [] = zero
end_of (b ∷ s) = cond (eqb b newline) zero (suc (end_of s))

-- how many bytes the name has whose line ends at a place: three characters a byte beside six; no more than the longest
unfoldable pub name_length_of : ℕ → ℕ
name_length_of end = cond (ltb longest_name ((end - 6) / 3)) longest_name ((end - 6) / 3)

-- the value of an upper-case hexadecimal digit; 0 of anything else
unfoldable pub hex_value : ℕ → ℕ
hex_value c =
    cond (leb 0x30 c)
    (cond (leb c 0x39) (c - 0x30)
    (cond (leb 0x41 c) (cond (leb c 0x46) (c - 0x37) 0) 0)) 0

-- byte i of the name that a text draws
unfoldable pub name_byte : List ℕ → ℕ → ℕ
name_byte text i = hex_value (get_or text (2 * i + 5) 0) * 16 + hex_value (get_or text (2 * i + 6) 0)

-- what a dot counts in its row
unfoldable pub dot_value : ℕ → ℕ → ℕ
dot_value b w = cond (eqb b printed) w 0

-- the row that the line at a place of a text draws
unfoldable pub row_byte : List ℕ → ℕ → ℕ
row_byte text at =
    dot_value (get_or text (at + 2) 0) 64 + dot_value (get_or text (at + 3) 0) 32 + dot_value (get_or text (at + 4) 0) 16
    + dot_value (get_or text (at + 5) 0) 8 + dot_value (get_or text (at + 6) 0) 4 + dot_value (get_or text (at + 7) 0) 2 + dot_value (get_or text (at + 8) 0) 1

-- row k of the lines from a place on
abbrev pub row_from : List ℕ → ℕ → ℕ → ℕ
row_from text from k = row_byte text (line_length * k + from)

-- the name and the rows that a text draws
unfoldable pub name_drawn : List ℕ → List ℕ
name_drawn text = listed (name_byte text) (name_length_of (end_of text))

unfoldable pub rows_drawn : List ℕ → List ℕ
rows_drawn text = listed (row_from text (name_line_length (name_length_of (end_of text)))) all_rows

-- the first row of a text that is not as in the drawing of the name and rows that it draws
unfoldable pub fault_row : List ℕ → ℕ
fault_row text =
    fault (char_at (name_drawn text) (rows_drawn text)) (drawing_length (length (name_drawn text))) zero 1 text

-- what the writer answers for them; it can take no offence at the shape of rows that were drawn, but at a name of no bytes, in row 1
abbrev pub fault_for : BundleRefusal → DrawingFault
fault_for written_is.Shape = Row 1
fault_for written_is.Alike = Alike
fault_for written_is.NoRoom = NoRoom

abbrev pub of_written : Result ℕ BundleRefusal → Result ℕ DrawingFault
of_written (Ok n) = Ok n
of_written (Err r) = Err (fault_for r)

-- a text that is no drawing is refused with its row (11), then what the writer refuses (12, 4)
unfoldable pub make_answer : List ℕ → List ℕ → Result ℕ DrawingFault
make_answer text o =
    cond (eqb (fault_row text) 0)
    (of_written (write_answer (name_drawn text) (rows_drawn text) o))
    (Err (Row (fault_row text)))

-- and what then stands in the buffer
unfoldable pub make_out : List ℕ → List ℕ → List ℕ
make_out text o = cond (eqb (fault_row text) 0) (write_out (name_drawn text) (rows_drawn text) o) o

-- the number of each answer (order W1), the length of the bundle, and the row
abbrev pub make_number : Result ℕ DrawingFault → ℕ
make_number (Ok n) = 0
make_number (Err (Row k)) = 11
make_number (Err Alike) = 12
make_number (Err NoRoom) = 4

abbrev pub make_length : Result ℕ DrawingFault → ℕ
make_length (Ok n) = n
make_length (Err f) = 0

abbrev pub make_row : Result ℕ DrawingFault → ℕ
make_row (Ok n) = 0
make_row (Err (Row k)) = k
make_row (Err Alike) = 0
make_row (Err NoRoom) = 0
