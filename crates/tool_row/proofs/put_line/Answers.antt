-- `put_line` meets its promise: blank and line where the number is 0, else nothing. Assumes nothing.
use native.Mathlib.Omega.{arith}
use Rattle.tool_row.proofs.Laying.{line-long, line-given, line-none}
use Rattle.tool_row.proofs.put_line.Goals as goal

pub put_byte-behind-requires : goal.put_byte-behind-requires
put_byte-behind-requires c =
    omega (arith, c.requires, line-long c.args.number c.args.line.now c.args.out.now c.args.at c.if-number-eq-GIVEN.true)

pub put_text-requires : goal.put_text-requires
put_text-requires c =
    let l = line-long c.args.number c.args.line.now c.args.out.now c.args.at c.if-number-eq-GIVEN.true in
    omega (arith, c.requires, l, c.put_byte-behind.ensures.value, c.put_byte-behind.auto.out)

pub returns-then-number-eq-GIVEN : goal.returns-then-number-eq-GIVEN
returns-then-number-eq-GIVEN c =
    let b = c.put_byte-behind.ensures in
    let t = c.put_text.ensures in
    let given =
    line-given c.args.number c.args.line.now c.args.out.now c.args.at c.if-number-eq-GIVEN.true b.value b.out_after t.value t.out_after in
    record { value = given.0; out_after = given.1 }

pub returns : goal.returns
returns c =
    let none = line-none c.args.number c.args.line.now c.args.out.now c.args.at c.if-number-eq-GIVEN.false in
    record { value = none.0; out_after = none.1 }
