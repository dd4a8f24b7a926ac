-- `put` meets its promise: the part is copied behind what is there. Assumes nothing.
use Rattle.tool_files.proofs.Moving.{copied_behind}
use Rattle.tool_files.proofs.put.Goals as goal

pub returns : goal.returns
returns c = copied_behind _ _ _ _ c.requires c.copy.ensures
