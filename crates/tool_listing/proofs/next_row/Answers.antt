-- `next_row` meets its promise: the refusals one after the other, and else what `give` gives. Assumes nothing.
use Rattle.tool_listing.proofs.Giving.{bad-key, bad-font, too_long, no_room, beyond, over-before, nothing-against}
use Rattle.frame_spec.specs.Told.{told}
use Rattle.tool_listing.proofs.next_row.Goals as goal

pub returns-then-key-ne-KEY_LENGTH : goal.returns-then-key-ne-KEY_LENGTH
returns-then-key-ne-KEY_LENGTH c =
    let a = c.args in
    let its = bad-key (told a.key.now a.font.now a.layout) a.editions a.stream.now a.cursor a.out.now c.if-key-ne-KEY_LENGTH.true
    c.refuse.ensures in
    record { value = its.0; out_after = its.1 }

pub returns-then-font-ne-DIGEST_LENGTH : goal.returns-then-font-ne-DIGEST_LENGTH
returns-then-font-ne-DIGEST_LENGTH c =
    let a = c.args in
    let its = bad-font (told a.key.now a.font.now a.layout) a.editions a.stream.now a.cursor a.out.now c.if-key-ne-KEY_LENGTH.false
    c.if-font-ne-DIGEST_LENGTH.true c.refuse-then-font-ne-DIGEST_LENGTH.ensures in
    record { value = its.0; out_after = its.1 }

pub returns-then-stream-gt-LONGEST_STREAM : goal.returns-then-stream-gt-LONGEST_STREAM
returns-then-stream-gt-LONGEST_STREAM c =
    let a = c.args in
    let its = too_long (told a.key.now a.font.now a.layout) a.editions a.stream.now a.cursor a.out.now c.if-key-ne-KEY_LENGTH.false
    c.if-font-ne-DIGEST_LENGTH.false c.if-stream-gt-LONGEST_STREAM.true c.refuse-then-stream-gt-LONGEST_STREAM.ensures in
    record { value = its.0; out_after = its.1 }

pub returns-then-out-lt-ROW_ROOM : goal.returns-then-out-lt-ROW_ROOM
returns-then-out-lt-ROW_ROOM c =
    let a = c.args in
    let its = no_room (told a.key.now a.font.now a.layout) a.editions a.stream.now a.cursor a.out.now
    c.if-key-ne-KEY_LENGTH.false c.if-font-ne-DIGEST_LENGTH.false c.if-stream-gt-LONGEST_STREAM.false c.if-out-lt-ROW_ROOM.true
    c.refuse-then-out-lt-ROW_ROOM.ensures in
    record { value = its.0; out_after = its.1 }

pub returns-then-cursor-stream : goal.returns-then-cursor-stream
returns-then-cursor-stream c =
    let a = c.args in
    let its = beyond (told a.key.now a.font.now a.layout) a.editions a.stream.now a.cursor a.out.now
    c.if-key-ne-KEY_LENGTH.false c.if-font-ne-DIGEST_LENGTH.false
    c.if-stream-gt-LONGEST_STREAM.false c.if-out-lt-ROW_ROOM.false c.if-cursor-stream.true c.refuse-then-cursor-stream.ensures in
    record { value = its.0; out_after = its.1 }

pub returns-then-over : goal.returns-then-over
returns-then-over c =
    let a = c.args in
    let its = over-before (told a.key.now a.font.now a.layout) a.editions a.stream.now a.cursor a.out.now
    c.if-key-ne-KEY_LENGTH.false c.if-font-ne-DIGEST_LENGTH.false
    c.if-stream-gt-LONGEST_STREAM.false c.if-out-lt-ROW_ROOM.false c.if-cursor-stream.false
    c.if-over.true c.refuse-then-over.ensures in
    record { value = its.0; out_after = its.1 }

pub give-requires : goal.give-requires
give-requires c = record {
  sizes = record {
    key-is = c.if-key-ne-KEY_LENGTH.false;
    font-is =
        c.if-font-ne-DIGEST_LENGTH.false;
  };
  short = c.if-stream-gt-LONGEST_STREAM.false;
  roomy = c.if-out-lt-ROW_ROOM.false;
  inside = c.if-cursor-stream.false;
}

pub returns : goal.returns
returns c =
    let a = c.args in
    let its = nothing-against (told a.key.now a.font.now a.layout) a.editions a.stream.now a.cursor a.out.now
    c.if-key-ne-KEY_LENGTH.false
    c.if-font-ne-DIGEST_LENGTH.false
    c.if-stream-gt-LONGEST_STREAM.false c.if-out-lt-ROW_ROOM.false
    c.if-cursor-stream.false c.if-over.false (c.give.ensures.value, c.give.ensures.out_after) in
    record { value = its.0; out_after = its.1 }
