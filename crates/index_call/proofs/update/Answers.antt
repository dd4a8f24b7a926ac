-- `update` meets its promise: each refusal is the first of the order that holds, and else the entries counted are added. Assumes nothing.
use native.Mathlib.Omega.{arith}
use Rattle.index_call.proofs.Calls.{bad-key, bad-font, too_long, no_room, over, beyond, full, adding, done}
use Rattle.index_call.proofs.update.Goals as goal

pub returns-then-key-ne-KEY_LENGTH : goal.returns-then-key-ne-KEY_LENGTH
returns-then-key-ne-KEY_LENGTH c =
    let met = bad-key c.args.key.now c.args.font.now c.args.layout c.args.editions c.args.stream.now c.args.table.now c.args.count c.if-key-ne-KEY_LENGTH.true c.refused.result
    c.refused.ensures in
    record { value = met.0; table_after = met.1 }

pub returns-then-font-ne-DIGEST_LENGTH : goal.returns-then-font-ne-DIGEST_LENGTH
returns-then-font-ne-DIGEST_LENGTH c =
    let met = bad-font c.args.key.now c.args.font.now c.args.layout c.args.editions c.args.stream.now c.args.table.now c.args.count c.if-key-ne-KEY_LENGTH.false
    c.if-font-ne-DIGEST_LENGTH.true c.refused-then-font-ne-DIGEST_LENGTH.result c.refused-then-font-ne-DIGEST_LENGTH.ensures in
    record { value = met.0; table_after = met.1 }

pub returns-then-stream-gt-LONGEST_STREAM : goal.returns-then-stream-gt-LONGEST_STREAM
returns-then-stream-gt-LONGEST_STREAM c =
    let met = too_long c.args.key.now c.args.font.now c.args.layout c.args.editions c.args.stream.now c.args.table.now c.args.count c.if-key-ne-KEY_LENGTH.false
    c.if-font-ne-DIGEST_LENGTH.false c.if-stream-gt-LONGEST_STREAM.true c.refused-then-stream-gt-LONGEST_STREAM.result c.refused-then-stream-gt-LONGEST_STREAM.ensures in
    record { value = met.0; table_after = met.1 }

pub returns-then-table-lt-MOST_ENTRIES : goal.returns-then-table-lt-MOST_ENTRIES
returns-then-table-lt-MOST_ENTRIES c =
    let met = no_room c.args.key.now c.args.font.now c.args.layout c.args.editions c.args.stream.now c.args.table.now c.args.count c.if-key-ne-KEY_LENGTH.false
    c.if-font-ne-DIGEST_LENGTH.false (omega (arith, c.if-stream-gt-LONGEST_STREAM.false)) c.if-table-lt-MOST_ENTRIES.true c.refused-then-table-lt-MOST_ENTRIES.result
    c.refused-then-table-lt-MOST_ENTRIES.ensures in
    record { value = met.0; table_after = met.1 }

pub returns-then-count-gt-MOST_ENTRIES : goal.returns-then-count-gt-MOST_ENTRIES
returns-then-count-gt-MOST_ENTRIES c =
    let met = over c.args.key.now c.args.font.now c.args.layout c.args.editions c.args.stream.now c.args.table.now c.args.count
    c.if-key-ne-KEY_LENGTH.false c.if-font-ne-DIGEST_LENGTH.false
    (omega (arith, c.if-stream-gt-LONGEST_STREAM.false)) (omega (arith, c.if-table-lt-MOST_ENTRIES.false)) c.if-count-gt-MOST_ENTRIES.true c.refused-then-count-gt-MOST_ENTRIES.result
    c.refused-then-count-gt-MOST_ENTRIES.ensures in
    record { value = met.0; table_after = met.1 }

pub returns-then-from-stream : goal.returns-then-from-stream
returns-then-from-stream c =
    let met = beyond c.args.key.now c.args.font.now c.args.layout c.args.editions c.args.stream.now c.args.table.now c.args.count
    c.if-key-ne-KEY_LENGTH.false c.if-font-ne-DIGEST_LENGTH.false
    (omega (arith, c.if-stream-gt-LONGEST_STREAM.false)) (omega (arith, c.if-table-lt-MOST_ENTRIES.false))
    (omega (arith, c.if-count-gt-MOST_ENTRIES.false)) c.last_place-from.result c.last_place-from.ensures
    c.if-from-stream.true c.refused-then-from-stream.result c.refused-then-from-stream.ensures in
    record { value = met.0; table_after = met.1 }

pub returns-then-n-count : goal.returns-then-n-count
returns-then-n-count c =
    let met = full c.args.key.now c.args.font.now c.args.layout c.args.editions c.args.stream.now c.args.table.now c.args.count
    c.if-key-ne-KEY_LENGTH.false
    c.if-font-ne-DIGEST_LENGTH.false
    (omega (arith, c.if-stream-gt-LONGEST_STREAM.false))
    (omega (arith, c.if-table-lt-MOST_ENTRIES.false))
    (omega (arith, c.if-count-gt-MOST_ENTRIES.false)) c.last_place-from.result
    c.last_place-from.ensures (omega (arith, c.if-from-stream.false))
    c.stretches_from-n.result c.stretches_from-n.ensures c.if-n-count.true c.refused-then-n-count.result
    c.refused-then-n-count.ensures in
    record { value = met.0; table_after = met.1 }

pub add-requires : goal.add-requires
add-requires c =
    record {
      adding = adding c.args.key.now c.args.font.now c.args.layout c.args.editions c.args.stream.now c.args.table.now c.args.count
          c.if-key-ne-KEY_LENGTH.false
          c.if-font-ne-DIGEST_LENGTH.false
          (omega (arith, c.if-stream-gt-LONGEST_STREAM.false))
          (omega (arith, c.if-table-lt-MOST_ENTRIES.false))
          (omega (arith, c.if-count-gt-MOST_ENTRIES.false)) c.last_place-from.result
          c.last_place-from.ensures (omega (arith, c.if-from-stream.false))
          c.stretches_from-n.result c.stretches_from-n.ensures;
      n_in_bounds = omega (
        arith,
        c.if-n-count.false,
        c.if-count-gt-MOST_ENTRIES.false,
        c.if-table-lt-MOST_ENTRIES.false,
      );
    }

pub returns : goal.returns
returns c =
    let met = done c.args.key.now c.args.font.now c.args.layout c.args.editions c.args.stream.now c.args.table.now c.args.count
    c.if-key-ne-KEY_LENGTH.false
    c.if-font-ne-DIGEST_LENGTH.false
    (omega (arith, c.if-stream-gt-LONGEST_STREAM.false))
    (omega (arith, c.if-table-lt-MOST_ENTRIES.false))
    (omega (arith, c.if-count-gt-MOST_ENTRIES.false))
    c.last_place-from.result
    c.last_place-from.ensures (omega (
      arith,
      c.if-from-stream.false,
    )) c.stretches_from-n.result
    c.stretches_from-n.ensures (omega (arith, c.if-n-count.false)) _
    c.add.ensures in
    record { value = met.0; table_after = met.1 }
