-- `count` meets its promise: one count or the other goes up by one, modulo 2^64. Assumes nothing.
use Rattle.tool_listing.proofs.Giving.{line-counted, refusal-counted}
use Rattle.std.proofs.Common.{rules}
use Rattle.tool_listing.proofs.count.Goals as goal

pub returns-then-number-eq-GIVEN : goal.returns-then-number-eq-GIVEN
returns-then-number-eq-GIVEN c =
    let a = c.args in
    line-counted a.cursor a.number a.closing c.if-number-eq-GIVEN.true (search rules)

pub returns-else-number-eq-GIVEN : goal.returns-else-number-eq-GIVEN
returns-else-number-eq-GIVEN c =
    let a = c.args in
    refusal-counted a.cursor a.number a.closing c.if-number-eq-GIVEN.false (search rules)
