-- A line begins within its row. Assumes nothing.
use Rattle.std.proofs.Common.{sym, ◌∙◌}
use Rattle.tool_orders.specs.Rows.{line-within}
use Rattle.compose.proofs.order.Goals as goal

pub slice_bounds-seal_line-count : goal.slice_bounds-seal_line-count
slice_bounds-seal_line-count g c = line-within c.args.row.now _ (sym c.judge_order-found.ensures ∙ c.in-Some.is)

pub slice_bounds-seal_line-start : goal.slice_bounds-seal_line-start
slice_bounds-seal_line-start g c = line-within c.args.row.now _ (sym c.judge_order-found.ensures ∙ c.in-Some.is)
