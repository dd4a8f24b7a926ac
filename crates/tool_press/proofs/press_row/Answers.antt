-- `press_row` meets its promise: a step, and the row of what it answers. Assumes nothing.
use Rattle.tool_press.proofs.Rows.{fitting, refused-row, done-row}
use Rattle.std.proofs.Common.{arith, rules}
use Rattle.tool_press.proofs.press_row.Goals as goal

pub returns-then-out-lt-ROW_ROOM : goal.returns-then-out-lt-ROW_ROOM
returns-then-out-lt-ROW_ROOM c =
    let a = c.args in
    let its = refused-row a.key.now a.font.now a.press a.window.now a.piece.now a.out.now c.if-out-lt-ROW_ROOM.true
    _ c.step-refusal.ensures.value _ c.step-refusal.ensures.window_after _ c.refuse.ensures in
    record { value = its.0; window_after = its.1.0; out_after = its.1.1 }

pub row_for-requires : goal.row_for-requires
row_for-requires c =
    let a = c.args in record {
      answer_in_bounds = (
        fitting a.key.now a.font.now a.press a.window.now a.piece.now _ c.step-done.ensures.value _
            c.step-done.ensures.line_after,
        search rules,
      );
      row_room_in_bounds = search rules;
    }

pub returns : goal.returns
returns c =
    let a = c.args in
    let its = done-row a.key.now a.font.now a.press a.window.now a.piece.now a.out.now
    (omega (arith, c.if-out-lt-ROW_ROOM.false)) _
    c.step-done.ensures.value _ c.step-done.ensures.window_after _
    c.step-done.ensures.line_after _ _ (c.row_for.ensures.value, c.row_for.ensures.out_after) in
    record { value = its.0; window_after = its.1.0; out_after = its.1.1 }
