-- What is asked about stands in the buffer. Assumes nothing.
use Rattle.std.proofs.Common.{sym, ◌∙◌}
use Rattle.tool_files.specs.Held.{held-within}
use Rattle.bundle.proofs.on_input.Goals as goal

pub slice_bounds-asked-end : goal.slice_bounds-asked-end
slice_bounds-asked-end g c = held-within _ _ _ (sym c.held.ensures ∙ c.in-Ok.is)
