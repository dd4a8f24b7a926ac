-- `misnamed` meets its promise: what `fields_in` tells says whether the fields are of the other edition. Assumes nothing.
use mathlib.Core.Path.{sym, ◌∙◌}
use Rattle.read_spec.specs.Judging.{held}
use Rattle.convert_find.proofs.Telling.{shape-other, fields-other}
use Rattle.convert_find.proofs.misnamed.Goals as goal

pub returns-in-None : goal.returns-in-None
returns-in-None c = sym (shape-other c.args.named (held c.args.stretch.now)
    (sym c.fields_in.ensures ∙ c.in-None.is))

pub returns-in-Some : goal.returns-in-Some
returns-in-Some c = rw c.same.ensures (sym (fields-other c.args.named _ _
    (held c.args.stretch.now) (sym c.fields_in.ensures ∙
    c.in-Some.is)))
