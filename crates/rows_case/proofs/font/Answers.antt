-- `font` meets its promise. Assumes nothing.
use Rattle.rows_case.specs.Cases.{rule_font}
use Rattle.rows_case.proofs.font.Goals as goal

pub returns-clause-value : goal.returns-clause-value
unfolding rule_font
returns-clause-value c = c.fill.ensures
