-- `feed_answer` meets its promise: 14, 1 and 3, in this order. Assumes nothing.
use mathlib.Core.Path.{sym, ◌∙◌}
use Prim.Native.Nat.{◌+◌, ◌≤◌, ◌<◌}
use borrow.Author.Tests.{lt-ltb, le-ltb}
use lib.ListN.{length}
use Rattle.digest_call.specs.Answers.{LONGEST-MESSAGE}
use Rattle.running_spec.specs.Running.{feed_answer}
use Rattle.running_spec.specs.Order.{known_of}
use native.Mathlib.Omega.{arith}
use Rattle.running_steps.proofs.feed_answer.Goals as goal

pub returns-then-running-gt-NOT_FINISHED : goal.returns-then-running-gt-NOT_FINISHED
unfolding feed_answer
returns-then-running-gt-NOT_FINISHED c = rw (lt-ltb 0 c.args.running.finished c.if-running-gt-NOT_FINISHED.true)

pub returns-then-is_unfeedable : goal.returns-then-is_unfeedable
unfolding feed_answer
returns-then-is_unfeedable c = rw (
  le-ltb 0 c.args.running.finished c.if-running-gt-NOT_FINISHED.false,
  sym
      c.is_unfeedable.ensures ∙ c.if-is_unfeedable.true,
)

pub overflow_sub-running : goal.overflow_sub-running
overflow_sub-running c = (known_of c.args.running (sym c.is_unfeedable.ensures ∙
    c.if-is_unfeedable.false)).1

pub returns-then-bytes-running : goal.returns-then-bytes-running
unfolding feed_answer
returns-then-bytes-running c =
    let r = c.args.running in
    let fit = sym c.is_unfeedable.ensures ∙ c.if-is_unfeedable.false in
    let most = (known_of r fit).1 in
    let over : LONGEST-MESSAGE < r.total + length c.args.bytes.now = omega
    (arith, most, c.if-bytes-running.true) in
    rw (
      le-ltb 0 r.finished c.if-running-gt-NOT_FINISHED.false,
      fit,
      lt-ltb LONGEST-MESSAGE
          (r.total + length c.args.bytes.now) over,
    )

pub returns : goal.returns
unfolding feed_answer
returns c =
    let r = c.args.running in
    let fit = sym c.is_unfeedable.ensures ∙ c.if-is_unfeedable.false in
    let most = (known_of r fit).1 in
    let fits : r.total + length c.args.bytes.now ≤ LONGEST-MESSAGE = omega
    (arith, most, c.if-bytes-running.false) in
    rw (
      le-ltb 0 r.finished c.if-running-gt-NOT_FINISHED.false,
      fit,
      le-ltb LONGEST-MESSAGE
          (r.total + length c.args.bytes.now) fits,
    )
