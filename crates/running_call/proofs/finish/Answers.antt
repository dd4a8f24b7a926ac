-- `running_call::finish` meets its promise: the record left is the one after the answer that is given. Assumes nothing.
use Rattle.running_spec.specs.Running.{finish_record}
use Rattle.running_call.proofs.finish.Goals as goal

pub returns : goal.returns
unfolding finish_record
returns c =
    let given = c.give-answer.ensures in (given.0, rw given.0 at c.after_finish.ensures, given.1)
