-- `is_possible` meets its promise: the tests are those of the definition, in its order. Assumes nothing.
use Rattle.live_call.proofs.Numbers.{none-none, none-some, one-order, one-other, neither}
use Rattle.live_call.proofs.is_possible.Goals as goal

pub returns-then-n-eq0 : goal.returns-then-n-eq0
returns-then-n-eq0 c = none-none c.args.n c.if-n-eq-NO_MARK.true c.if-n-eq0.true

pub returns-then-n-eq-NO_MARK : goal.returns-then-n-eq-NO_MARK
returns-then-n-eq-NO_MARK c = none-some c.args.n c.if-n-eq-NO_MARK.true c.if-n-eq0.false

pub returns-then-n : goal.returns-then-n
returns-then-n c = one-order c.args.n c.if-n-eq-NO_MARK.false
    c.if-n-eq-MARKED.true c.if-n.true

pub returns-then-n-eq-MARKED : goal.returns-then-n-eq-MARKED
returns-then-n-eq-MARKED c = one-other c.args.n c.if-n-eq-NO_MARK.false
    c.if-n-eq-MARKED.true c.if-n.false

pub returns : goal.returns
returns c = neither c.args.n c.if-n-eq-NO_MARK.false c.if-n-eq-MARKED.false
