-- `start_answer` meets its promise: whether the instance is known. Assumes nothing.
use mathlib.Core.Path.{sym, ◌∙◌}
use Rattle.running_spec.specs.Running.{start_answer}
use Rattle.running_steps.proofs.start_answer.Goals as goal

pub returns-then-is_unknown : goal.returns-then-is_unknown
unfolding start_answer
returns-then-is_unknown c = rw (sym c.is_unknown.ensures ∙ c.if-is_unknown.true)

pub returns : goal.returns
unfolding start_answer
returns c = rw (sym c.is_unknown.ensures ∙ c.if-is_unknown.false)
