use Rattle.index_count.proofs.Counting.{counting-none, counting-end, counting-last, counting-on, counting_more}
use native.Mathlib.Omega.{arith}
use Rattle.index_count.proofs.stretches_from.Goals as goal

pub loop-at-init : goal.loop-at-init
loop-at-init c =
    counting-none c.args.stream.now c.args.from

pub returns-then-span : goal.returns-then-span
returns-then-span c =
    let l = c.loop-at in
    counting-last c.args.stream.now c.args.from l.n l.at l.invariant c.next_span-span.result c.next_span-span.ensures
    c.if-span.true

pub overflow_add-n : goal.overflow_add-n
overflow_add-n c =
    let l = c.loop-at in
    omega (arith, l.invariant.few, c.loop-at-test.true)

pub loop-at-smaller : goal.loop-at-smaller
loop-at-smaller c =
    let l = c.loop-at in
    omega (
      arith,
      c.loop-at-test.true,
      counting-on c.args.stream.now c.args.from l.n l.at l.invariant
          c.next_span-span.result c.next_span-span.ensures c.if-span.false,
    )

pub loop-at-preserved : goal.loop-at-preserved
loop-at-preserved c =
    let l = c.loop-at in
    counting_more c.args.stream.now c.args.from l.n l.at l.invariant c.next_span-span.result c.next_span-span.ensures
    c.if-span.false

pub returns : goal.returns
returns c =
    let l = c.loop-at in
    counting-end c.args.stream.now c.args.from l.n l.at l.invariant (omega (arith, c.loop-at-test.false))
