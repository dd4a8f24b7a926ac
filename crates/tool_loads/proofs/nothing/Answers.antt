-- `nothing` meets its promise. Assumes nothing.
use Rattle.tool_loads.specs.Said.{text_of}
use mathlib.Core.Path.{refl}
use Rattle.tool_loads.proofs.nothing.Goals as goal

pub returns : goal.returns
unfolding text_of
returns c = refl
