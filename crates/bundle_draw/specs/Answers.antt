-- What `show` answers and leaves in the caller's buffer, in the order of the refusals. Assumes nothing: these are definitions.
use Rattle.std.specs.Prelude.{cond, List, ℕ, ◌+◌, ◌*◌, ◌/◌, ◌%◌, ltb, length, get_or, Ok, Err, Result}
use Rattle.base_lists.specs.Buffers.{over}
use Rattle.bundle_spec.specs.Bundles.{glyph_rows, characters, all_rows}
use Rattle.bundle_spec.specs.Lengths.{glyph_field}
use Rattle.bundle_read.specs.declared.BundleFault.{BundleFault}
use Rattle.bundle_read.specs.declared.BundleFault.TheVariants as bundle-is
use Rattle.bundle_read.specs.Answers.{read_answer}
use Rattle.bundle_write.specs.Answers.{name_in}
use Rattle.bundle_write.specs.Exactly.{rows_over}
use Rattle.bundle_draw.specs.Drawing.{drawing_length, longest_drawing, listed, drawing}
use Rattle.bundle_draw.specs.declared.ShowRefusal.{ShowRefusal}
use Rattle.bundle_draw.specs.declared.ShowRefusal.TheVariants.{Shape, Alike, NoRoom}

-- the refusal of bytes that are no bundle
abbrev pub refusal_for : BundleFault → ShowRefusal
refusal_for bundle-is.Shape = Shape
refusal_for bundle-is.Alike = Alike

-- what bytes are as a bundle, and a buffer: shape (11), glyphs that are alike (12), room (4)
abbrev pub shown_by : Result ℕ BundleFault → List ℕ → Result ℕ ShowRefusal
shown_by (Err f) o = Err (refusal_for f)
shown_by (Ok n) o = cond (ltb (length o) longest_drawing) (Err NoRoom) (Ok (drawing_length n))

unfoldable pub show_answer : List ℕ → List ℕ → Result ℕ ShowRefusal
show_answer b o = shown_by (read_answer b) o

-- done: w over the buffer's first bytes; refused: the buffer as it was
abbrev pub on_shown : Result ℕ ShowRefusal → List ℕ → List ℕ → List ℕ
on_shown (Ok n) w o = over w o
on_shown (Err f) w o = o

-- the drawing of a bundle is that of its name and its rows
unfoldable pub show_out : List ℕ → List ℕ → List ℕ
show_out b o = on_shown (show_answer b o) (drawing (name_in b) (rows_over b characters)) o

-- the number of each answer, and the length of the drawing
abbrev pub show_number : Result ℕ ShowRefusal → ℕ
show_number (Ok n) = 0
show_number (Err Shape) = 11
show_number (Err Alike) = 12
show_number (Err NoRoom) = 4

abbrev pub show_length : Result ℕ ShowRefusal → ℕ
show_length (Ok n) = n
show_length (Err f) = 0

-- where row k of a bundle with a name of n bytes stands, and all its rows
abbrev pub row_place : ℕ → ℕ → ℕ
row_place n k = n + 7 + glyph_field * (k / glyph_rows) + k % glyph_rows

unfoldable pub gathered_from : List ℕ → ℕ → List ℕ
gathered_from b n = listed (λ k. get_or b (row_place n k) 0) all_rows
