-- `fault_row` meets its promise. The invariant: the text from place i on decides, in the row reached. Assumes nothing.
use mathlib.Core.Path.{◌≡◌}
use Prim.Native.Nat.{◌+◌, ◌-◌, ◌≤◌}
use lib.ListN.{length, get_or, drop}
use Rattle.bundle_dots.specs.Faults.{fault}
use Rattle.bundle_dots.proofs.fault_row.Given as goal

abbrev pub invariant-loop-i : goal.invariant-loop-i
invariant-loop-i l = (l.row ≤ l.i + 1) × (fault (λ k. get_or l.drawing k 0) (length l.drawing - l.i) l.i l.row (drop l.i l.text)
    ≡ fault (λ k. get_or l.drawing k 0) (length l.drawing) 0 1 l.text)
