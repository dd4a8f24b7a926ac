-- `judge_stretch` meets its promise: each answer of `unstuff` is one case of the judgement, and a body fits the buffer because it is no
-- longer than its stretch. Assumes nothing.
use Rattle.read_call.proofs.Unstuffing.{refused-shown, told-fits, told-body}
use Rattle.read_call.proofs.Shown.{passed}
use Rattle.read_call.specs.Answers.{judged_within}
use Rattle.read_spec.specs.Ceiling as ceiling
use Rattle.frame_spec.specs.Told.{told}
use mathlib.Core.Path.{sym, ap, ◌∙◌}
use native.Mathlib.Omega.{arith}
use Rattle.read_call.proofs.judge_stretch.Goals as goal

pub returns-in-Err : goal.returns-in-Err
unfolding judged_within
returns-in-Err c =
    let met = refused-shown (told c.args.key.now c.args.font.now c.args.asked.layout) c.args.asked.editions c.args.stretch.now _ (omega arith) _
    (sym c.unstuff.ensures.value ∙ c.in-Err.is) _ c.stuffing_answer.ensures _ c.refused.ensures c.args.asked.allowed c.args.line.now in
    record { value = met.0; line_after = met.1 }

pub slice_bounds-judge_fields-end : goal.slice_bounds-judge_fields-end
slice_bounds-judge_fields-end c =
    told-fits (told c.args.key.now c.args.font.now c.args.asked.layout) c.args.asked.editions c.args.stretch.now _ _ _
    (sym c.unstuff.ensures.value ∙ c.in-Ok.is)
    c.unstuff.ensures.out_after

pub returns : goal.returns
unfolding judged_within
returns c =
    let met = passed (judged_within (told c.args.key.now c.args.font.now c.args.asked.layout) c.args.asked c.args.stretch.now) _ c.args.line.now _ _
    (ap (ceiling.within c.args.asked.allowed) (told-body (told c.args.key.now c.args.font.now c.args.asked.layout) c.args.asked.editions c.args.stretch.now _ _ _
    (sym c.unstuff.ensures.value ∙
    c.in-Ok.is)
    c.unstuff.ensures.out_after)) (c.judge_fields.ensures.value, c.judge_fields.ensures.line_after) in
    record { value = met.0; line_after = met.1 }
