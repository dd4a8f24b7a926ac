-- `next_span` meets its promise. The invariant: the next stretch from place i is that from the start. Assumes nothing.
use mathlib.Core.Path.{◌≡◌}
use Rattle.read_stretch.specs.Stretches.{next_span}
use Rattle.read_stretch.proofs.next_span.Given as goal

abbrev pub invariant-loop-i : goal.invariant-loop-i
invariant-loop-i l = next_span l.stream l.i ≡ next_span l.stream l.from
