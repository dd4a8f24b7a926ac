-- `desk` meets its promise: each refusal is the first of the order that holds, and else the items decide. Assumes nothing.
use native.Mathlib.Omega.{arith}
use Rattle.desk_call.proofs.Calls.{bad-key, bad-font, too_long, no_table, over-count, takes, chosen-met}
use Rattle.desk_call.proofs.desk.Goals as goal

pub returns-then-key-ne-KEY_LENGTH : goal.returns-then-key-ne-KEY_LENGTH
returns-then-key-ne-KEY_LENGTH c =
    let met = bad-key c.args.key.now c.args.font.now c.args.layout c.args.editions c.args.stream.now c.args.table.now c.args.count c.args.list.now c.args.out.now c.if-key-ne-KEY_LENGTH.true in
    record { value = met.0; out_after = met.1 }

pub returns-then-font-ne-DIGEST_LENGTH : goal.returns-then-font-ne-DIGEST_LENGTH
returns-then-font-ne-DIGEST_LENGTH c =
    let met = bad-font c.args.key.now c.args.font.now c.args.layout c.args.editions c.args.stream.now c.args.table.now c.args.count c.args.list.now c.args.out.now c.if-font-ne-DIGEST_LENGTH.true in
    record { value = met.0; out_after = met.1 }

pub returns-then-stream-gt-LONGEST_STREAM : goal.returns-then-stream-gt-LONGEST_STREAM
returns-then-stream-gt-LONGEST_STREAM c =
    let met = too_long c.args.key.now c.args.font.now c.args.layout c.args.editions c.args.stream.now c.args.table.now c.args.count c.args.list.now c.args.out.now
    c.if-key-ne-KEY_LENGTH.false c.if-font-ne-DIGEST_LENGTH.false c.if-stream-gt-LONGEST_STREAM.true in
    record { value = met.0; out_after = met.1 }

pub returns-then-table-lt-MOST_ENTRIES : goal.returns-then-table-lt-MOST_ENTRIES
returns-then-table-lt-MOST_ENTRIES c =
    let met = no_table c.args.key.now c.args.font.now c.args.layout c.args.editions c.args.stream.now c.args.table.now c.args.count c.args.list.now c.args.out.now
    c.if-key-ne-KEY_LENGTH.false c.if-font-ne-DIGEST_LENGTH.false (omega (arith, c.if-stream-gt-LONGEST_STREAM.false)) c.if-table-lt-MOST_ENTRIES.true in
    record { value = met.0; out_after = met.1 }

pub returns-then-count-gt-MOST_ENTRIES : goal.returns-then-count-gt-MOST_ENTRIES
returns-then-count-gt-MOST_ENTRIES c =
    let met = over-count c.args.key.now c.args.font.now c.args.layout c.args.editions c.args.stream.now c.args.table.now c.args.count c.args.list.now c.args.out.now
    c.if-key-ne-KEY_LENGTH.false c.if-font-ne-DIGEST_LENGTH.false (omega (arith, c.if-stream-gt-LONGEST_STREAM.false))
    (omega (arith, c.if-table-lt-MOST_ENTRIES.false)) c.if-count-gt-MOST_ENTRIES.true in
    record { value = met.0; out_after = met.1 }

pub returns : goal.returns
returns c =
    let met = chosen-met c.args.key.now c.args.font.now c.args.layout c.args.editions c.args.stream.now c.args.table.now c.args.count c.args.list.now c.args.out.now
    c.if-key-ne-KEY_LENGTH.false c.if-font-ne-DIGEST_LENGTH.false
    (omega (arith, c.if-stream-gt-LONGEST_STREAM.false)) (omega (arith, c.if-table-lt-MOST_ENTRIES.false))
    (omega (arith, c.if-count-gt-MOST_ENTRIES.false)) c.choose.result _ (c.choose.ensures.value, c.choose.ensures.out_after) in
    record { value = met.0; out_after = met.1 }
