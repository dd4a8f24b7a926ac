-- `rule_takes` meets its promise: each arm is a line of `rule`. Assumes nothing.
use Rattle.replay_event.proofs.rule_takes.Goals as goal

pub returns-in-Asked : goal.returns-in-Asked
returns-in-Asked c = rw c.in-Asked.is
