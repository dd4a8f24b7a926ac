-- `read` meets its promise: each refusal is the first of document 01's order that holds, and else the next stretch is judged, which
-- lies within the stream. Assumes nothing.
use Rattle.read_call.proofs.Calls.{bad-key, bad-font, too_long, no_room, beyond, within, at-end, at-stretch}
use native.Mathlib.Omega.{arith}
use Rattle.read_call.proofs.read.Goals as goal

pub returns-then-key-ne-KEY_LENGTH : goal.returns-then-key-ne-KEY_LENGTH
returns-then-key-ne-KEY_LENGTH c =
    let met = bad-key c.args.key.now c.args.font.now c.args.asked c.args.stream.now c.args.from c.args.line.now c.if-key-ne-KEY_LENGTH.true _ c.at.ensures in
    record { value = met.0; line_after = met.1 }

pub returns-then-font-ne-DIGEST_LENGTH : goal.returns-then-font-ne-DIGEST_LENGTH
returns-then-font-ne-DIGEST_LENGTH c =
    let met = bad-font c.args.key.now c.args.font.now c.args.asked c.args.stream.now c.args.from c.args.line.now c.if-key-ne-KEY_LENGTH.false c.if-font-ne-DIGEST_LENGTH.true _
    c.at-then-font-ne-DIGEST_LENGTH.ensures in
    record { value = met.0; line_after = met.1 }

pub returns-then-stream-gt-LONGEST_STREAM : goal.returns-then-stream-gt-LONGEST_STREAM
returns-then-stream-gt-LONGEST_STREAM c =
    let met = too_long c.args.key.now c.args.font.now c.args.asked c.args.stream.now c.args.from c.args.line.now (omega arith) (omega arith) c.if-stream-gt-LONGEST_STREAM.true _
    c.at-then-stream-gt-LONGEST_STREAM.ensures in
    record { value = met.0; line_after = met.1 }

pub returns-then-line-lt-LONGEST_LINE : goal.returns-then-line-lt-LONGEST_LINE
returns-then-line-lt-LONGEST_LINE c =
    let met = no_room c.args.key.now c.args.font.now c.args.asked c.args.stream.now c.args.from c.args.line.now (omega arith) (omega arith) (omega arith) c.if-line-lt-LONGEST_LINE.true
    _ c.at-then-line-lt-LONGEST_LINE.ensures in
    record { value = met.0; line_after = met.1 }

pub returns-then-from-stream : goal.returns-then-from-stream
returns-then-from-stream c =
    let met = beyond c.args.key.now c.args.font.now c.args.asked c.args.stream.now c.args.from c.args.line.now (omega arith) (omega arith) (omega arith) (omega arith)
    c.if-from-stream.true _ c.at-then-from-stream.ensures in
    record { value = met.0; line_after = met.1 }

pub returns-then-first-closing : goal.returns-then-first-closing
returns-then-first-closing c =
    let met = at-end c.args.key.now c.args.font.now c.args.asked c.args.stream.now c.args.from c.args.line.now (omega arith) (omega arith) (omega arith) (omega arith)
    (omega arith) c.next_span-span.result c.next_span-span.ensures c.if-first-closing.true _ c.at-then-first-closing.ensures in
    record { value = met.0; line_after = met.1 }

pub slice_bounds-judge_stretch-count : goal.slice_bounds-judge_stretch-count
slice_bounds-judge_stretch-count c =
    (within c.args.stream.now c.args.from c.next_span-span.result c.next_span-span.ensures).order

pub slice_bounds-judge_stretch-start : goal.slice_bounds-judge_stretch-start
slice_bounds-judge_stretch-start c =
    (within c.args.stream.now c.args.from c.next_span-span.result c.next_span-span.ensures).order

pub slice_bounds-judge_stretch-end : goal.slice_bounds-judge_stretch-end
slice_bounds-judge_stretch-end c =
    (within c.args.stream.now c.args.from c.next_span-span.result c.next_span-span.ensures).inside

pub returns : goal.returns
returns c =
    let m = c.judge_stretch-verdict.ensures in
    let met = at-stretch c.args.key.now c.args.font.now c.args.asked c.args.stream.now c.args.from c.args.line.now (omega arith) (omega arith) (omega arith) (omega arith)
    (omega arith) c.next_span-span.result
    c.next_span-span.ensures
    c.if-first-closing.false _ _ m.value m.line_after in
    record { value = met.0; line_after = met.1 }
