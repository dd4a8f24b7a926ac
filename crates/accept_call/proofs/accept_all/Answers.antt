use native.Mathlib.Omega.{arith}
use mathlib.Core.Path.{ap}
use Rattle.base_lists.specs.Below.{below_all}
use Rattle.accept_nonces.specs.declared.Words.{Words}
use Rattle.accept_call.proofs.Going.{going-none, going-order, going-inside, going-refused, going-repeated, going_more, going-all}
use Rattle.accept_call.proofs.accept_all.Goals as goal

pub loop-n-init : goal.loop-n-init
loop-n-init c = going-none _ _ _ c.requires.counted_value.0

pub slice_bounds-stretch-count : goal.slice_bounds-stretch-count
slice_bounds-stretch-count c = going-order c.loop-n.invariant c.loop-n-test.true _ c.next_span-span.ensures

pub slice_bounds-stretch-start : goal.slice_bounds-stretch-start
slice_bounds-stretch-start c = going-order c.loop-n.invariant c.loop-n-test.true _ c.next_span-span.ensures

pub slice_bounds-stretch-end : goal.slice_bounds-stretch-end
slice_bounds-stretch-end c = going-inside c.loop-n.invariant c.loop-n-test.true _ c.next_span-span.ensures

pub returns-then-number-ne0 : goal.returns-then-number-ne0
returns-then-number-ne0 c =
    going-refused c.loop-n.invariant c.loop-n-test.true _
    c.next_span-span.ensures _ c.number_in-number.ensures c.if-number-ne0.true

pub returns-then-met : goal.returns-then-met
returns-then-met c =
    going-repeated c.loop-n.invariant
    c.loop-n-test.true _
    c.next_span-span.ensures _
    c.number_in-number.ensures c.if-number-ne0.false
    (below_all 256 c.args.stream.now
    (λ k h. omega (
      arith,
      c.type_inv.stream k,
    )))
    _ _ (ap (λ (w : Words). w.high) c.words_in-words.ensures)
    (ap (λ (w : Words). w.low) c.words_in-words.ensures) _ c.met.ensures c.if-met.true

pub loop-n-preserved : goal.loop-n-preserved
loop-n-preserved c =
    going_more c.loop-n.invariant
    c.loop-n-test.true _
    c.next_span-span.ensures _
    c.number_in-number.ensures c.if-number-ne0.false
    (below_all 256 c.args.stream.now
    (λ k h. omega (
      arith,
      c.type_inv.stream k,
    )))
    _ _ (ap (λ (w : Words). w.high) c.words_in-words.ensures)
    (ap (λ (w : Words). w.low) c.words_in-words.ensures) _ c.met.ensures c.if-met.false
    c.requires.counted_value.1

pub returns : goal.returns
returns c = going-all c.loop-n.invariant c.loop-n-test.false
