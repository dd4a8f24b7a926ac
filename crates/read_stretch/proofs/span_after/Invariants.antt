-- `span_after` meets its promise. The invariant: what is left from place i on, with the run that starts at first, has the same
-- next stretch as at the start. Assumes nothing.
use mathlib.Core.Path.{◌≡◌}
use Prim.Native.Nat.{◌≤◌}
use lib.ListN.{drop}
use Rattle.read_stretch.specs.Stretches.{after_mark}
use Rattle.read_stretch.proofs.span_after.Given as goal

abbrev pub invariant-loop-i : goal.invariant-loop-i
invariant-loop-i l = record {
  first_in : l.first ≤ l.i;
  same_next : after_mark l.first l.i (drop l.i l.stream) ≡ after_mark l.from l.from (drop l.from l.stream);
}
