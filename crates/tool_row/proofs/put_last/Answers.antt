-- `put_last` meets its promise: the room, then the row. Assumes nothing.
use Rattle.tool_row.specs.Rows.{last_row_text}
use Rattle.tool_row.proofs.Laying.{last-most}
use Rattle.tool_row.proofs.Answers.{no_room, put_whole}
use Rattle.tool_row.proofs.put_last.Goals as goal

pub returns-then-out-lt-ROW_ROOM : goal.returns-then-out-lt-ROW_ROOM
returns-then-out-lt-ROW_ROOM c =
    let told = no_room (last_row_text c.args.lines c.args.refused) c.args.out.now c.if-out-lt-ROW_ROOM.true in
    record { value = told.0; out_after = told.1 }

pub returns : goal.returns
returns c =
    let r = c.lay_last.ensures in
    let w = put_whole _ c.args.out.now c.if-out-lt-ROW_ROOM.false (last-most c.args.lines c.args.refused) r.value r.out_after in
    record { value = w.0; out_after = w.1 }
