-- `refuse` meets its promise, case by case. Assumes nothing.
use Rattle.std.proofs.Common.{sym, ap, ◌∙◌}
use Rattle.tool_press.specs.Pressing.{no_row}
use Rattle.tool_press.proofs.refuse.Goals as goal

pub returns-in-Err : goal.returns-in-Err
returns-in-Err c = cc (c.without_row.ensures, c.into.ensures, ap (no_row c.args.press) (sym c.in-Err.is))

pub returns-in-Ok : goal.returns-in-Ok
returns-in-Ok c = c.without_row-in-Ok.ensures ∙ ap (no_row c.args.press) (sym c.in-Ok.is)
