-- `table_holds` meets its promise: the code's table is the definition's, which has the products (`table-has`). Assumes nothing.
use mathlib.Core.Path.{◌∙◌}
use Rattle.gage_cells.specs.Products.{table-has}
use Rattle.gage_cells.proofs.table_holds.Goals as goal

pub returns : goal.returns
returns c = c.has_products.ensures ∙ table-has
