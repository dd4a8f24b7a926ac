-- `fault_row` meets its promise: the drawing of the name and rows, made in a buffer, is what the text is held to. Assumes nothing.
use mathlib.Core.Path.{refl, ◌∙◌}
use lib.ListN.{replicate}
use Rattle.bundle_draw.specs.Drawing.{longest_drawing}
use Rattle.bundle_draw.proofs.Holding.{held_to}
use Rattle.bundle_draw.proofs.fault_row.Goals as goal

pub returns : goal.returns
returns c =
    let a = c.args in
    c.fault_row.ensures ∙ held_to a.name.now a.rows.now a.text.now (replicate longest_drawing 0) _ _
    c.put_drawing.ensures refl
