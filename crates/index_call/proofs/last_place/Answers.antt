-- `last_place` meets its promise. Assumes nothing.
use mathlib.Core.Path.{◌∙◌}
use Rattle.index_spec.specs.Last.{last_none, last_some}
use Rattle.index_call.proofs.last_place.Goals as goal

pub returns-then-count-eq0 : goal.returns-then-count-eq0
returns-then-count-eq0 c =
    last_none c.args.table.now c.args.count c.if-count-eq0.true

pub returns : goal.returns
returns c =
    c.place_of.ensures ∙ last_some c.args.table.now c.args.count c.if-count-eq0.false
