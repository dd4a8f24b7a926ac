-- `key` meets its promise. Assumes nothing.
use Rattle.rows_case.specs.Cases.{rule_key}
use Rattle.rows_case.proofs.key.Goals as goal

pub returns-clause-value : goal.returns-clause-value
unfolding rule_key
returns-clause-value c = c.fill.ensures
