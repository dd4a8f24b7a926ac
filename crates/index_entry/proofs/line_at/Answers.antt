use mathlib.Core.Path.{◌∙◌}
use Rattle.index_entry.proofs.Passing.{seen_below, passed_none, passed-refused, passed-line, passed_here, passed-all, none-of-zero}
use native.Mathlib.Omega.{arith}
use Rattle.index_entry.proofs.line_at.Goals as goal
use Rattle.index_entry.proofs.line_at.Goals.{then-number_of-eq-LINE_NUMBER+else-left-eq0, else-number_of-eq-LINE_NUMBER}

pub returns-then-k-eq0 : goal.returns-then-k-eq0
returns-then-k-eq0 c =
    c.no_line.ensures ∙ rw c.if-k-eq0.true (none-of-zero c.args.table.now c.args.count)

pub loop-i-init : goal.loop-i-init
loop-i-init c =
    passed_none c.args.table.now c.args.count c.args.k (omega (arith, c.if-k-eq0.false))

pub overflow_cast-result : goal.overflow_cast-result
overflow_cast-result c =
    let h = rw c.looked_at-entry-items.ensures at c.loop-i-test.true in
    omega (arith, seen_below c.args.table.now c.args.count)

pub returns-then-left-eq0 : goal.returns-then-left-eq0
returns-then-left-eq0 c =
    let l = c.loop-i in
    let h = rw c.looked_at-entry-items.ensures at c.loop-i-test.true in
    let e = rw c.looked_at-entry-items.ensures at c.place_of.ensures in
    let n = rw c.looked_at-entry-items.ensures at c.number_of.ensures in
    rw e (passed_here c.args.table.now c.args.count c.args.k l.i l.left l.invariant h
    (rw n at c.if-number_of-eq-LINE_NUMBER.true) c.if-left-eq0.true)

pub loop-i-preserved : goal.loop-i-preserved
loop-i-preserved c =
    let l = c.loop-i in
    let h = rw c.looked_at-entry-items.ensures at c.loop-i-test.true in
    let n = rw c.looked_at-entry-items.ensures at c.number_of.ensures in
    elim c.if-number_of-eq-LINE_NUMBER.branch [
      | then-number_of-eq-LINE_NUMBER+else-left-eq0 w ↦
          rw w.left-is (passed-line c.args.table.now c.args.count c.args.k l.i l.left l.invariant h
          (rw n at w.if-number_of-eq-LINE_NUMBER.true) (omega (arith, w.if-left-eq0.false)))
      | else-number_of-eq-LINE_NUMBER w ↦
          rw w.left-is (passed-refused c.args.table.now c.args.count c.args.k l.i l.left l.invariant h
          (rw n at w.if-number_of-eq-LINE_NUMBER.false))
    ]

pub returns : goal.returns
returns c =
    let l = c.loop-i in
    c.no_line-2.ensures ∙ passed-all c.args.table.now c.args.count c.args.k l.i l.left l.invariant
    (rw c.looked_at-entry-items.ensures at c.loop-i-test.false)
