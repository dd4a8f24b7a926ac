-- What a text draws, as `make` works it out, and the answers of `make` in their order. Assumes nothing.
use Rattle.std.specs.Prelude.{◌≡◌, refl, Bool, true, false, cond, List, ℕ, ◌-◌, ◌/◌, ◌≤◌, ltb, length, take, drop, Err}
use Rattle.std.proofs.Common.{◌∙◌}
use Rattle.std.proofs.Math.Path.{ap}
use native.Mathlib.Omega.{arith}
use borrow.Author.Tests.{eq-eqb, ne_eqb, ltb-false}
use Rattle.bundle_spec.specs.Bundles.{longest_name, all_rows}
use Rattle.bundle_write.specs.Answers.{write_answer, write_out}
use Rattle.bundle_draw.specs.declared.DrawingFault.TheVariants.{Row}
use Rattle.bundle_draw.specs.Drawing.{name_line_length, char_at, drawing_length, listed}
use Rattle.bundle_draw.specs.Listed.{length-listed}
use Rattle.bundle_dots.specs.Faults.{fault}
use Rattle.bundle_draw.specs.Making.{end_of, name_length_of, name_byte, row_from, name_drawn, rows_drawn, fault_row, of_written, make_answer, make_out}

-- a name that a text draws is no longer than the longest, and there are 126 rows
pub name-bound : (end : ℕ) → name_length_of end ≤ longest_name
unfolding name_length_of
name-bound end = go (ltb longest_name ((end - 6) / 3)) refl
  where
    go : (t : Bool) → ltb longest_name ((end - 6) / 3) ≡ t → cond t longest_name ((end - 6) / 3) ≤ longest_name
    go true e = omega arith
    go false e = ltb-false longest_name ((end - 6) / 3) e

pub length-name-drawn : (text : List ℕ) → length (name_drawn text) ≤ longest_name
unfolding name_drawn
length-name-drawn text = omega (arith, length-listed (name_byte text) (name_length_of (end_of text)), name-bound (end_of text))

pub length-rows-drawn : (text : List ℕ) → length (rows_drawn text) ≡ all_rows
unfolding rows_drawn
length-rows-drawn text = length-listed (row_from text (name_line_length (name_length_of (end_of text)))) all_rows

-- worked out in buffers
module _ (text : List ℕ) (n : ℕ) (is : n ≡ name_length_of (end_of text)) where
  pub name-drawn : (name : List ℕ) → take n name ≡ listed (name_byte text) n → take (n - 0) (drop 0 name) ≡ name_drawn text
  unfolding name_drawn
  name-drawn name e = let all : n - 0 ≡ n = omega arith in rw all (e ∙ ap (listed (name_byte text)) is)

  pub rows-drawn : (rows : List ℕ) → rows ≡ listed (row_from text (name_line_length n)) all_rows → rows ≡ rows_drawn text
  unfolding rows_drawn
  rows-drawn rows e = e ∙ ap (λ (k : ℕ). listed (row_from text (name_line_length k)) all_rows) is

-- the row at fault, where name and rows were worked out
pub fault-drawn : (text name rows : List ℕ) → name ≡ name_drawn text → rows ≡ rows_drawn text → (row : ℕ)
    → row ≡ fault (char_at name rows) (drawing_length (length name)) 0 1 text → row ≡ fault_row text
unfolding fault_row
fault-drawn text name rows p q row e =
    e ∙ ap (λ (x : List ℕ). fault (char_at x rows) (drawing_length (length x)) 0 1 text) p
    ∙ ap (λ (y : List ℕ). fault (char_at (name_drawn text) y) (drawing_length (length (name_drawn text))) 0 1 text) q

module _ (text o : List ℕ) where
  pub make-row : (row : ℕ) → row ≡ fault_row text → (row ≡ 0 → ⊥) → (Err (Row row) ≡ make_answer text o) × (o ≡ make_out text o)
  unfolding make_answer make_out
  make-row row e n = let f = ne_eqb (fault_row text) 0 (λ z. n (e ∙ z)) in (rw (f, ← e), rw f)

  pub make-written : fault_row text ≡ 0
      → (of_written (write_answer (name_drawn text) (rows_drawn text) o) ≡ make_answer text o) × (write_out (name_drawn text) (rows_drawn text) o ≡ make_out text o)
  unfolding make_answer make_out
  make-written e = let f = eq-eqb (fault_row text) 0 e in (rw f, rw f)
