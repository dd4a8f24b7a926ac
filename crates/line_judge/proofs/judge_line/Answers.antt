use mathlib.Core.Path.{sym, ◌∙◌}
use Rattle.line_judge.specs.Passing.{pass-rule}
use Rattle.line_judge.proofs.Steps.{pass_on, pass-stop, pass-end}
use Rattle.line_judge.proofs.judge_line.Goals as goal

pub loop-b-init : goal.loop-b-init
loop-b-init c = pass-rule _

pub returns-then-not-listed : goal.returns-then-not-listed
returns-then-not-listed c =
    sym (pass-stop _ _ _ c.loop-b-test.true (sym c.listed.ensures ∙ c.if-not-listed.true))
    ∙ c.loop-b.invariant

pub loop-b-preserved : goal.loop-b-preserved
loop-b-preserved c =
    rw c.pass-met.ensures
    (sym (pass_on _ _ _ c.loop-b-test.true (sym c.listed.ensures ∙ c.if-not-listed.false))
    ∙ c.loop-b.invariant)

pub returns : goal.returns
returns c = c.judged_by.ensures ∙ sym (pass-end _ _ _ c.loop-b-test.false) ∙ c.loop-b.invariant
