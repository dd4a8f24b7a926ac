-- `end` meets its promise: 1, then what the numbers tell. Assumes nothing.
use Rattle.live_call.proofs.Numbers.{order, ends-bad, ends-none, ends_some}
use Rattle.live_call.proofs.Calling.{said-no, said-yes}
use native.Mathlib.Omega.{arith}
use Rattle.live_call.proofs.end.Goals as goal

pub returns-then-not-is_possible : goal.returns-then-not-is_possible
returns-then-not-is_possible c =
    let n = c.args.n in
    ends-bad n (said-no n c.is_possible.ensures c.if-not-is_possible.true)

pub returns-then-n-eq-NO_MARK : goal.returns-then-n-eq-NO_MARK
returns-then-n-eq-NO_MARK c =
    let n = c.args.n in
    ends-none n (said-yes n c.is_possible.ensures c.if-not-is_possible.false) c.if-n-eq-NO_MARK.true

pub overflow_sub-result : goal.overflow_sub-result
overflow_sub-result c =
    let n = c.args.n in
    omega (arith, order n (said-yes n c.is_possible.ensures c.if-not-is_possible.false))

pub returns : goal.returns
returns c =
    let n = c.args.n in
    ends_some n (said-yes n c.is_possible.ensures c.if-not-is_possible.false) c.if-n-eq-NO_MARK.false
