-- `put_drawing` meets its promise. The invariant: so much of the drawing stands over the buffer's start (`Filled`). Assumes nothing.
use Rattle.base_lists.specs.Fill.{Filled}
use Rattle.bundle_draw.specs.Drawing.{drawing}
use Rattle.bundle_draw.proofs.put_drawing.Given as goal

abbrev pub invariant-loop-i : goal.invariant-loop-i
invariant-loop-i l = Filled (drawing l.name l.rows) l.initial.out l.out l.i
