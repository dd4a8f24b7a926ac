-- `after_finish` meets its promise, answer by answer. Assumes nothing.
use Rattle.running_spec.specs.Running.{ended}
use Rattle.running_steps.proofs.Answering.{finish-refused}
use Rattle.running_steps.proofs.after_finish.Goals as goal

pub returns-in_default : goal.returns-in_default
returns-in_default c = finish-refused c.args.running c.args.answer c.in_default.not-Ok

pub returns : goal.returns
unfolding ended
returns c = rw c.in-Ok.is
