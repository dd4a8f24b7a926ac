-- `after_start` meets its promise: feeding nothing leaves a state of zeros and no byte. Assumes nothing.
use mathlib.Core.Path.{sym, ◌∙◌}
use Rattle.digest_spec.specs.Shapes.{known-row}
use Rattle.running_spec.specs.Running.{start_record}
use Rattle.running_steps.proofs.Starting.{started-empty}
use native.Mathlib.Omega.{arith}
use Rattle.running_steps.proofs.after_start.Goals as goal

pub returns-then-is_unknown : goal.returns-then-is_unknown
unfolding start_record
returns-then-is_unknown c = rw (sym c.is_unknown.ensures ∙ c.if-is_unknown.true)

pub overflow_cast-result : goal.overflow_cast-result
overflow_cast-result c = omega (arith, known-row c.args.instance (sym c.is_unknown.ensures ∙ c.if-is_unknown.false))

pub returns : goal.returns
unfolding start_record
returns c =
    let known = sym c.is_unknown.ensures ∙ c.if-is_unknown.false in rw known (sym (started-empty c.args.instance known))
