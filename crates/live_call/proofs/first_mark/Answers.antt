-- `first_mark` meets its promise: the test is that of the definition. Assumes nothing.
use borrow.Author.Tests.{eq-eqb, ne_eqb}
use Rattle.live_call.proofs.first_mark.Goals as goal

pub returns-then-n-eq-NO_MARK : goal.returns-then-n-eq-NO_MARK
returns-then-n-eq-NO_MARK c = rw (eq-eqb c.args.n.marked 0 c.if-n-eq-NO_MARK.true)

pub returns : goal.returns
returns c = rw (ne_eqb c.args.n.marked 0 c.if-n-eq-NO_MARK.false)
