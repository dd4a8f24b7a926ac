-- `as_text` meets its promise: the text is copied over zeros. Assumes nothing.
use Rattle.tool_loads.proofs.Saying.{text-is}
use Rattle.tool_loads.proofs.as_text.Goals as goal

pub returns : goal.returns
returns c = let s = c in text-is s.args.said.now s.requires _ c.copy.ensures
