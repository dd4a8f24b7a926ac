-- `give` meets its promise: what is read decides, and the row of it is laid. Assumes nothing.
use Rattle.tool_listing.proofs.Giving.{zeros, zeros-room, line-fits, last-given, row-given}
use Rattle.std.proofs.Common.{arith}
use Rattle.frame_spec.specs.Told.{told}
use Rattle.tool_listing.proofs.give.Goals as goal

pub returns-then-first-closing : goal.returns-then-first-closing
returns-then-first-closing c =
    let s = c in
    let a = s.args in
    let r = c.read-reading in
    let p = c.put_last-put.ensures in
    let its = last-given (told a.key.now a.font.now a.layout) a.editions a.stream.now a.cursor a.out.now zeros s.requires zeros-room r.result _
    r.ensures.value r.ensures.line_after c.if-first-closing.true p.value p.out_after c.answer_of.ensures
    c.end.ensures in
    record { value = its.0; out_after = its.1 }

pub slice_bounds-put_row-end : goal.slice_bounds-put_row-end
slice_bounds-put_row-end c =
    let s = c in
    let a = s.args in
    let r = c.read-reading in
    line-fits (told a.key.now a.font.now a.layout) a.editions a.stream.now a.cursor a.out.now zeros s.requires zeros-room r.result _
    r.ensures.value r.ensures.line_after c.read_length-length.ensures

pub returns : goal.returns
returns c =
    let s = c in
    let a = s.args in
    let r = c.read-reading in
    let p = c.put_row-put.ensures in
    let its = row-given (told a.key.now a.font.now a.layout) a.editions a.stream.now a.cursor a.out.now zeros s.requires zeros-room r.result _
    r.ensures.value r.ensures.line_after c.if-first-closing.false
    (omega (arith, r.auto.line)) c.read_number-number.ensures
    c.read_length-length.ensures
    p.value p.out_after c.answer_of-2.ensures c.count.ensures in
    record { value = its.0; out_after = its.1 }
