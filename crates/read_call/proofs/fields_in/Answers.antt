-- `fields_in` meets its promise: a stretch that is refused holds no fields, and else its body's are judged. Assumes nothing.
use mathlib.Core.Path.{sym, ap, ◌∙◌}
use native.Mathlib.Omega.{arith}
use Rattle.frame_body.specs.Answers.{judged}
use Rattle.read_call.proofs.Handed.{held-none, held_fits, held-body}
use Rattle.read_call.proofs.fields_in.Goals as goal

pub returns-in_default : goal.returns-in_default
returns-in_default c =
    sym (ap judged (held-none c.args.stretch.now _ (omega arith) c.in_default.field-0
    (sym c.unstuff.ensures.value ∙ c.in_default.is)))

pub slice_bounds-judge_body-end : goal.slice_bounds-judge_body-end
slice_bounds-judge_body-end c =
    let u = c.unstuff in
    held_fits c.args.stretch.now _ _ _
    (sym u.ensures.value ∙ c.in-Ok.is) u.ensures.out_after

pub returns : goal.returns
returns c =
    let u = c.unstuff in
    c.judge_body.ensures
    ∙ sym (ap judged (held-body c.args.stretch.now _ _ _
    (sym u.ensures.value ∙ c.in-Ok.is) u.ensures.out_after))
