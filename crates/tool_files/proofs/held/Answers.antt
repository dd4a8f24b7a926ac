-- `held` meets its promise, case by case. Assumes nothing.
use Rattle.tool_files.proofs.Answers.{beyond, inside, as-it-was}
use Rattle.tool_files.proofs.held.Goals as goal

pub returns-then-n-room : goal.returns-then-n-room
returns-then-n-room c = beyond _ _ _ c.in-Ok.is c.if-n-room.true

pub returns-else-n-room : goal.returns-else-n-room
returns-else-n-room c = inside _ _ _ c.in-Ok.is c.if-n-room.false

pub returns-in-Err : goal.returns-in-Err
returns-in-Err c = as-it-was _ _ _ c.in-Err.is
