-- `substitute_wide` meets its promise. The invariant: the bytes before i are substituted (`Substituting`).
-- Assumes nothing.
use mathlib.Core.Path.{◌≡◌}
use Prim.Native.Nat.{◌%◌}
use lib.ListN.{length, get_or}
use Rattle.gage_cells.specs.Sizes.{WIDE}
use Rattle.gage_cells.specs.Wide.{Substituting}
use Rattle.gage_substitute.proofs.substitute_wide.Given as goal

abbrev pub invariant-loop-i : goal.invariant-loop-i
invariant-loop-i l = (length l.out ≡ WIDE) × Substituting (l.leader % 4) (λ k. get_or l.w k 0) l.out l.p l.i
