-- `is_unfeedable` meets its promise: the two tests are those of the definition. Assumes nothing.
use mathlib.Core.Path.{sym, ◌∙◌}
use Rattle.running_spec.specs.Running.{unfeedable}
use Rattle.running_spec.proofs.is_unfeedable.Goals as goal

pub returns-then-is_unknown : goal.returns-then-is_unknown
unfolding unfeedable
returns-then-is_unknown c = rw (sym c.is_unknown.ensures ∙ c.if-is_unknown.true)

pub returns : goal.returns
unfolding unfeedable
returns c = rw (sym c.is_unknown.ensures ∙ c.if-is_unknown.false)
