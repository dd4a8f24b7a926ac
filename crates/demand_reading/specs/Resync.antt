-- The buyer's demand 3, first half, from the promises alone: however many read calls are made from a mark on, each sees the same in two
-- streams that are equal from there on, with places counted from the mark. Assumes nothing.
use Rattle.std.specs.Prelude.{◌≡◌, List, ℕ, ◌-◌, ◌≤◌}
use Rattle.read_stretch.specs.Shift.{Alike}

-- a place a of x and a place b of y from which the same bytes follow, as far behind i as behind j
pub record Abreast (x : List ℕ) (i a : ℕ) (y : List ℕ) (j b : ℕ) : Type 0 where
  pub alike : Alike x a y b
  pub after-i : i ≤ a
  pub after-j : j ≤ b
  pub same : a - i ≡ b - j
