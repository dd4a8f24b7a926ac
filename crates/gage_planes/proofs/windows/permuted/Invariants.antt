-- `permuted` meets its promise. The invariants: from the round at which a loop began the windows went on to round i, drawn out for four turns
-- (`OnwardBoth`); the measures are the rounds left. Assumes nothing.
use Prim.Native.Nat.{◌-◌, ◌≤◌}
use Rattle.gage_planes_spec.specs.Both.{OnwardBoth}
use Rattle.gage_planes.proofs.windows.permuted.Given as goal

abbrev pub invariant-loop-i : goal.invariant-loop-i
invariant-loop-i l = (1 ≤ l.i) × (l.i ≤ l.k) × OnwardBoth l.h l.initial.i l.initial.r l.i l.r

abbrev pub decreases-loop-i : goal.decreases-loop-i
decreases-loop-i l = l.k - l.i

abbrev pub invariant-loop-i-2 : goal.invariant-loop-i-2
invariant-loop-i-2 l = (1 ≤ l.i) × (l.i ≤ l.k) × OnwardBoth l.h l.initial.i l.initial.r l.i l.r

abbrev pub decreases-loop-i-2 : goal.decreases-loop-i-2
decreases-loop-i-2 l = l.k - l.i
