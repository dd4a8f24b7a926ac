-- `one_step` meets its promise: it is the read call's reading, and the closing place of it. Assumes nothing.
use mathlib.Core.Path.{ap}
use Rattle.read_call.specs.declared.Reading.{Reading}
use Rattle.read_walk.specs.declared.Step.{Step}
use Rattle.read_walk.proofs.one_step.Goals as goal

-- a reading with the place where it ends
abbrev ending : Reading → Step
ending r = record { reading = r; at = r.closing }

pub returns : goal.returns
returns c =
    let p = c.read-reading.ensures in record { value = ap ending p.value; line_after = p.line_after }
