-- The part of the name stands in the bytes. Assumes nothing.
use native.Mathlib.Omega.{arith}
use Rattle.bundle_write.specs.Parts.{name-inside}
use Rattle.bundle_write.proofs.name.Goals as goal

pub overflow_add-result : goal.overflow_add-result
overflow_add-result c = rw c.name_part-part.ensures (omega (arith, name-inside c.args.bundle.now))

pub slice_bounds-result-end : goal.slice_bounds-result-end
slice_bounds-result-end c = rw c.name_part-part.ensures (name-inside c.args.bundle.now)
