-- `unturned` meets its promise. The invariant: the turns of the leaders from i on are undone (`Undone`). Assumes nothing.
use Rattle.gage_permute.proofs.Turning.{Undone}
use Rattle.gage_spec.specs.Permutation.{leaders}
use lib.ListN.{take}
use Prim.Native.Nat.{◌≤◌}
use Rattle.gage_permute.proofs.unturned.Given as goal

abbrev pub invariant-loop-i : goal.invariant-loop-i
invariant-loop-i l = (l.i ≤ l.k) × Undone (take l.k leaders) l.n l.initial.a l.a l.i
