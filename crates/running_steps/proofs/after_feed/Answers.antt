-- `after_feed` meets its promise: a refusal leaves the record, and else state and block grow. Assumes nothing.
use mathlib.Core.Path.{sym, ◌∙◌}
use Rattle.running_spec.specs.Order.{known_of, feed-tested}
use Rattle.running_steps.proofs.Answering.{feed-refused, feed-done}
use native.Mathlib.Omega.{arith}
use Rattle.running_steps.proofs.after_feed.Goals as goal

pub returns-in_default : goal.returns-in_default
returns-in_default c = feed-refused c.args.running c.args.bytes.now c.feed_answer.result
    (c.in_default.not-Ok tt) c.feed_answer.ensures

pub overflow_add-result : goal.overflow_add-result
overflow_add-result c =
    let a = c.args in
    let e = sym c.in-Ok.is ∙
    c.feed_answer.ensures in
    omega (arith, (feed-tested a.running a.bytes.now e).fits)

pub returns : goal.returns
returns c =
    let a = c.args in
    let e = sym c.in-Ok.is ∙
    c.feed_answer.ensures in
    feed-done a.running (known_of a.running (feed-tested a.running a.bytes.now e).usable).0 a.bytes.now c.grow-grown.result
    e c.grow-grown.ensures
