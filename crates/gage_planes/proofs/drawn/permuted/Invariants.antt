-- `permuted` meets its promise. The invariants: from the round at which a loop began the planes went on to round i, drawn out for as many turns as
-- have room (`Onward`); the measures are the rounds left. Assumes nothing.
use Prim.Native.Nat.{◌+◌, ◌-◌, ◌*◌, ◌≤◌}
use Rattle.gage_planes_spec.specs.Rounding.{Onward}
use Rattle.gage_planes.proofs.drawn.permuted.Given as goal

abbrev pub invariant-loop-i : goal.invariant-loop-i
invariant-loop-i l =
    (1 ≤ l.i) × (l.i ≤ l.k) × Onward l.n (l.n + 7 * l.most) l.initial.i l.initial.r (l.n + 7 * l.most) l.i l.r

abbrev pub decreases-loop-i : goal.decreases-loop-i
decreases-loop-i l = l.end - l.i

abbrev pub invariant-loop-i-2 : goal.invariant-loop-i-2
invariant-loop-i-2 l =
    (1 ≤ l.i) × (l.i ≤ l.k) × Onward l.n (l.n + 7 * l.most) l.initial.i l.initial.r (l.n + 7 * l.most) l.i l.r

abbrev pub decreases-loop-i-2 : goal.decreases-loop-i-2
decreases-loop-i-2 l = l.k - l.i
