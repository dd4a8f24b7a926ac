-- `closes_here` meets its promise: the test is that of the definition. Assumes nothing.
use Rattle.live_call.proofs.Numbers.{closes-none, closes-some}
use Rattle.live_call.proofs.closes_here.Goals as goal

pub returns-then-n-eq-NO_MARK : goal.returns-then-n-eq-NO_MARK
returns-then-n-eq-NO_MARK c = closes-none c.args.n c.if-n-eq-NO_MARK.true

pub returns : goal.returns
returns c = closes-some c.args.n c.if-n-eq-NO_MARK.false
