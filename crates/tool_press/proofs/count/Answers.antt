-- `count` meets its promise: one count or the other goes up by one, modulo 2^64. Assumes nothing.
use Rattle.tool_press.proofs.Rows.{line-counted, refusal-counted}
use Rattle.tool_press.proofs.count.Goals as goal

pub returns-then-number-eq-GIVEN : goal.returns-then-number-eq-GIVEN
returns-then-number-eq-GIVEN c =
    let a = c.args in
    line-counted a.press a.numbers a.number c.if-number-eq-GIVEN.true c.wrapping_add_u64-lines.ensures.value

pub returns-else-number-eq-GIVEN : goal.returns-else-number-eq-GIVEN
returns-else-number-eq-GIVEN c =
    let a = c.args in
    refusal-counted a.press a.numbers a.number c.if-number-eq-GIVEN.false c.wrapping_add_u64-refused.ensures.value
