-- `put_digits` meets its promise: the digits before the last are put first. Assumes nothing.
use mathlib.Core.Path.{ap, ◌∙◌}
use Prim.Native.Nat.{◌-◌, ◌/◌}
use native.Mathlib.Omega.{arith}
use lib.ListN.{length}
use lib.Seq.{length-sets}
use Rattle.tool_row.specs.Rows.{digits_in}
use Rattle.tool_row.proofs.Laying.{written_none, written_one, written-more, long-one, long-more}
use Rattle.tool_row.proofs.+put_digits.Goals as goal

pub returns-then-k-eq0 : goal.returns-then-k-eq0
returns-then-k-eq0 t c =
    let w = written_none c.args.k c.args.n c.args.at c.args.out.now c.if-k-eq0.true in
    record { value = w.0; out_after = w.1 }

pub bounds-out-at : goal.bounds-out-at
bounds-out-at t c = omega (arith, c.requires, long-one c.args.k c.args.n c.args.at c.args.out.now c.if-k-eq0.false c.if-n-lt10.true)

pub returns-then-n-lt10 : goal.returns-then-n-lt10
returns-then-n-lt10 t c =
    let w = written_one c.args.k c.args.n c.args.at c.args.out.now c.if-k-eq0.false c.if-n-lt10.true in
    record { value = w.0; out_after = w.1 }

pub put_digits-end-requires : goal.put_digits-end-requires
put_digits-end-requires t c =
    let l = long-more c.args.k c.args.n c.args.at c.args.out.now c.if-k-eq0.false c.if-n-lt10.false in
    (omega (arith, c.decreases, c.if-k-eq0.false), omega (arith, c.requires, l))

pub bounds-out-end : goal.bounds-out-end
bounds-out-end t c =
    let l = long-more c.args.k c.args.n c.args.at c.args.out.now c.if-k-eq0.false c.if-n-lt10.false in
    let e = c.put_digits-end.ensures in
    omega (arith, c.requires, l, e.value, ap length e.out_after ∙ length-sets c.args.out.now c.args.at (digits_in (c.args.k - 1) (c.args.n / 10)))

pub overflow_add-result-2 : goal.overflow_add-result-2
overflow_add-result-2 t c =
    let l = long-more c.args.k c.args.n c.args.at c.args.out.now c.if-k-eq0.false c.if-n-lt10.false in
    omega (arith, c.requires, l, c.put_digits-end.ensures.value)

pub returns : goal.returns
returns t c =
    let e = c.put_digits-end.ensures in
    let w = written-more c.args.k c.args.n c.args.at c.args.out.now c.if-k-eq0.false c.if-n-lt10.false e.value e.out_after in
    record { value = w.0; out_after = w.1 }
