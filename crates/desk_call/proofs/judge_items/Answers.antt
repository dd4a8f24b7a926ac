use mathlib.Core.Path.{refl}
use lib.ListN.{get_or}
use Rattle.frame_spec.specs.Told.{told}
use Rattle.desk_call.proofs.Judging.{going-none, going-all, going-past, going-no-line, going_more, item-closes}
use native.Mathlib.Omega.{arith}
use Rattle.desk_call.proofs.judge_items.Goals as goal

pub returns-then-i-count : goal.returns-then-i-count
returns-then-i-count c = going-past c.loop-k.invariant c.loop-k-test.true
    (get_or c.args.list.now c.loop-k.k 0) refl
    (omega (arith, c.if-i-count.true))

pub returns-then-closing-eq0 : goal.returns-then-closing-eq0
returns-then-closing-eq0 c = going-no-line c.loop-k.invariant c.loop-k-test.true
    (get_or c.args.list.now
    c.loop-k.k 0) refl (omega (arith, c.if-i-count.false))
    c.place_at-place.result c.place_at-place.ensures c.closing_of-closing.result c.closing_of-closing.ensures
    c.if-closing-eq0.true

pub overflow_sub-closing : goal.overflow_sub-closing
overflow_sub-closing c =
    let t = told c.args.key.now c.args.font.now c.args.layout in
    let x = item-closes t c.args.editions c.args.stream.now c.args.table.now c.args.count
    c.requires c.place_at-place.result
    c.closing_of-closing.result c.closing_of-closing.ensures c.if-closing-eq0.false in
    omega (arith, x.some)

pub lengthen-total-requires : goal.lengthen-total-requires
lengthen-total-requires c =
    let t = told c.args.key.now c.args.font.now c.args.layout in
    let x = item-closes t c.args.editions c.args.stream.now c.args.table.now c.args.count
    c.requires c.place_at-place.result
    c.closing_of-closing.result c.closing_of-closing.ensures c.if-closing-eq0.false in
    omega (arith, x.some, x.ends, c.requires.short)

pub loop-k-preserved : goal.loop-k-preserved
loop-k-preserved c = going_more c.loop-k.invariant
    c.loop-k-test.true
    (get_or c.args.list.now
    c.loop-k.k 0) refl (omega (arith, c.if-i-count.false))
    c.place_at-place.result c.place_at-place.ensures c.closing_of-closing.result
    c.closing_of-closing.ensures c.if-closing-eq0.false c.lengthen-total.result c.lengthen-total.ensures

pub returns : goal.returns
returns c = going-all c.loop-k.invariant (omega (arith, c.loop-k-test.false))
