-- `number_in` meets its promise. Assumes nothing.
use Rattle.std.proofs.Common.{◌∙◌}
use Rattle.rows_case.specs.Laws.{number_past, number-held}
use Rattle.rows_case.proofs.number_in.Goals as goal

pub returns-then-i-head : goal.returns-then-i-head
returns-then-i-head c = number_past _ _ c.if-i-head.true

pub returns : goal.returns
returns c = c.four_bytes.ensures ∙ number-held _ _ c.if-i-head.false
