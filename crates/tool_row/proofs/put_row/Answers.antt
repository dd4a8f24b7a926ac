-- `put_row` meets its promise: the line's length, then the room, then the row. Assumes nothing.
use mathlib.Core.Path.{sym, ◌∙◌}
use Rattle.tool_row.proofs.Laying.{row-most}
use Rattle.tool_row.proofs.Answers.{no_room, put_whole, too_long, long-enough}
use Rattle.tool_row.proofs.put_row.Goals as goal

pub returns-then-line-gt-LONGEST : goal.returns-then-line-gt-LONGEST
returns-then-line-gt-LONGEST c =
    let told = too_long c.args.place c.args.number c.args.line.now c.args.out.now c.if-line-gt-LONGEST.true in
    record { value = told.0; out_after = told.1 }

pub returns-then-out-lt-ROW_ROOM : goal.returns-then-out-lt-ROW_ROOM
returns-then-out-lt-ROW_ROOM c =
    let l = long-enough c.args.place c.args.number c.args.line.now c.args.out.now c.if-line-gt-LONGEST.false in
    let n = no_room _ c.args.out.now c.if-out-lt-ROW_ROOM.true in
    record { value = n.0 ∙ sym l.0; out_after = n.1 ∙ sym l.1 }

pub returns : goal.returns
returns c =
    let short = c.if-line-gt-LONGEST.false in
    let l = long-enough c.args.place c.args.number c.args.line.now c.args.out.now short in
    let r = c.lay_row.ensures in
    let w = put_whole _ c.args.out.now c.if-out-lt-ROW_ROOM.false
    (row-most c.args.place c.args.number c.args.line.now short) r.value r.out_after in
    record { value = w.0 ∙ sym l.0; out_after = w.1 ∙ sym l.1 }
