-- The part of the rows stands in the bytes. Assumes nothing.
use native.Mathlib.Omega.{arith}
use Rattle.bundle_write.specs.Parts.{rows_inside}
use Rattle.bundle_write.proofs.rows.Goals as goal

pub overflow_add-result : goal.overflow_add-result
overflow_add-result c = rw c.rows_part-part.ensures (omega (arith, rows_inside c.args.bundle.now c.args.character))

pub slice_bounds-result-end : goal.slice_bounds-result-end
slice_bounds-result-end c = rw c.rows_part-part.ensures (rows_inside c.args.bundle.now c.args.character)
