-- `tell` meets its promise, answer by answer. Assumes nothing.
use mathlib.Core.Path.{sym, ◌∙◌}
use Rattle.tool_trial.proofs.Telling.{told-done, told-no-state, told-refused}
use Rattle.tool_trial.proofs.tell.Goals as goal

pub returns-in-Err : goal.returns-in-Err
returns-in-Err c = cc (c.refuse.ensures, c.into.ensures, told-refused c.args.p c.args.n c.args.text.now _ c.in-Err.is)

pub returns-then-not-is_state : goal.returns-then-not-is_state
returns-then-not-is_state c =
    c.refuse-then-not-is_state.ensures ∙ told-no-state c.args.p c.args.n c.args.text.now c.in_default.is (sym c.is_state.ensures ∙ c.if-not-is_state.true)

pub returns : goal.returns
returns c = told-done c.args.p c.args.n c.args.text.now c.in_default.is (sym c.is_state.ensures ∙ c.if-not-is_state.false)
