-- Behind a line no dot is printed, and each character ends at most one row. Assumes nothing.
use mathlib.Core.Path.{◌≡◌}
use mathlib.Core.Bool.{Bool, true, false, cond}
use Prim.Native.Nat.{ℕ, ◌+◌, ◌≤◌}
use native.Mathlib.Nat.{div-zero}
use native.Mathlib.Omega.{arith}
use lib.Dec.{eqb}
use lib.ListN.{get_or, get_or-eq_default}
use Rattle.bundle_dots.specs.Lines.{newline, unprinted, weights, line_length, dot_of}
use Rattle.bundle_dots.specs.Faults.{next_row}

-- behind the line no place counts anything
pub no-dot : (r m : ℕ) → line_length ≤ m → dot_of r (get_or weights m 0) ≡ unprinted
unfolding dot_of
no-dot r m h = rw (get_or-eq_default weights 0 h, div-zero r)

-- the next row is at most one farther
pub next-near : (row c : ℕ) → next_row row c ≤ row + 1
next-near row c = go (eqb c newline)
  where
    go : (t : Bool) → cond t (row + 1) row ≤ row + 1
    go true = omega arith
    go false = omega arith
