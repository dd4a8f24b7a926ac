-- `row_for` meets its promise, case by case. Assumes nothing.
use Rattle.std.specs.Prelude.{Ok}
use Rattle.std.proofs.Common.{refl, ap, ◌∙◌}
use Rattle.tool_press.proofs.Rows.{no-row, one-row, its-part}
use Rattle.tool_press.proofs.row_for.Goals as goal

pub returns-in-Err : goal.returns-in-Err
returns-in-Err c =
    let a = c.args in
    let its = no-row a.press a.step a.line.now a.out.now _ c.in-Err.is refl _ (cc (c.without_row.ensures, c.into.ensures)) in
    record { value = its.0; out_after = its.1 }

pub returns-in_default : goal.returns-in_default
returns-in_default c =
    let a = c.args in
    let none = c.in-Ok.is ∙ ap Ok c.in_default.is in
    let its = no-row a.press a.step a.line.now a.out.now _ none refl _ c.without_row-in_default.ensures in
    record { value = its.0; out_after = its.1 }

pub slice_bounds-put_row-end : goal.slice_bounds-put_row-end
slice_bounds-put_row-end c =
    its-part c.args.step c.args.line.now _ (c.in-Ok.is ∙ ap Ok c.in-Some.is) c.requires.answer_in_bounds.0 _ c.read_length-length.ensures

pub returns : goal.returns
returns c =
    let a = c.args in
    let its = one-row a.press a.step a.line.now a.out.now _
    (c.in-Ok.is ∙ ap Ok c.in-Some.is) c.requires.answer_in_bounds.0 c.requires.answer_in_bounds.1 c.requires.row_room_in_bounds _
    c.read_number-number.ensures _
    c.read_length-length.ensures _ c.put_row-put.ensures.value _
    c.put_row-put.ensures.out_after _ c.answer_of.ensures _ c.count.ensures in
    record { value = its.0; out_after = its.1 }
