use mathlib.Core.Path.{◌∙◌}
use Rattle.gage_weave.specs.One.{first-is}
use Rattle.gage_weave.proofs.first_byte.Goals as goal

-- src/lib.rt:250:1
pub returns : goal.returns
returns c = c.low_byte.ensures ∙ first-is c.args.t
