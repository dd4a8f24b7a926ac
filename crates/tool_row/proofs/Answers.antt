-- Each return of `put_row` and `put_last` gives what the definition says. Assumes nothing.
use Rattle.std.specs.Prelude.{Ok, Err}
use mathlib.Core.Path.{◌≡◌, refl, ap, ◌∙◌}
use mathlib.Core.List.{List}
use Prim.Native.Nat.{ℕ, ◌+◌, ◌≤◌, ◌<◌}
use lib.ListN.{length}
use lib.Seq.{sets, sets-eq}
use native.Mathlib.Omega.{arith}
use borrow.Author.Tests.{lt-ltb, le-ltb}
use Rattle.base_lists.specs.Buffers.{over}
use Rattle.line_spec.specs.Lines.{longest}
use Rattle.tool_row.specs.Rows.{row_text, row_room}
use Rattle.tool_row.specs.Answers.{put_answer, put_out, row_answer, row_out}
use Rattle.tool_row.specs.declared.RowRefusal.TheVariants.{TooLong, NoRoom}

-- a row laid at the start is written over it
laid-over : (w o : List ℕ) → length w ≤ length o → sets o 0 w ≡ over w o
laid-over w o h = let z : 0 + length w ≡ length w = omega arith in sets-eq w o 0 (omega arith) ∙ rw z

module _ (w o : List ℕ) where
  pub no_room : length o < row_room → (Err NoRoom ≡ put_answer w o) × (o ≡ put_out w o)
  unfolding put_answer put_out
  no_room h = rw (lt-ltb (length o) row_room h) (refl, refl)

  pub put_whole : row_room ≤ length o → length w ≤ row_room → {r : ℕ} {out : List ℕ} → r ≡ length w → out ≡ sets o 0 w
      → (Ok r ≡ put_answer w o) × (out ≡ put_out w o)
  unfolding put_answer put_out
  put_whole h g e f = rw (le-ltb (length o) row_room h) (ap Ok e, f ∙ laid-over w o (omega (arith, h, g)))

module _ (place number : ℕ) (line o : List ℕ) where
  pub too_long : longest < length line → (Err TooLong ≡ row_answer place number line o) × (o ≡ row_out place number line o)
  unfolding row_answer row_out
  too_long h = rw (lt-ltb longest (length line) h) (refl, refl)

  -- no longer than lines are: as the row is put
  pub long-enough : length line ≤ longest
      → (row_answer place number line o ≡ put_answer (row_text place number line) o) × (row_out place number line o ≡ put_out (row_text place number line) o)
  unfolding row_answer row_out
  long-enough h = rw (le-ltb longest (length line) h) (refl, refl)
