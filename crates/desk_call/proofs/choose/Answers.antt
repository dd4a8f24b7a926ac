-- `choose` meets its promise: the items, and where none is at fault the new stream. Assumes nothing.
use Rattle.std.specs.Prelude.{Err}
use mathlib.Core.Path.{sym, ap, ◌∙◌}
use Rattle.frame_spec.specs.Told.{told}
use Rattle.desk_call.proofs.Calls.{choose-past, choose-no-line, choose-starts, choose-measured, choose-good}
use Rattle.desk_call.proofs.choose.Goals as goal

pub fill-requires : goal.fill-requires
fill-requires c =
    let t = told c.args.key.now c.args.font.now c.args.layout in
    let is = sym c.in-Ok.is ∙ c.judge_items.ensures in
    record {
      starts =
          choose-starts t c.args.editions c.args.stream.now c.args.table.now c.args.count c.args.list.now c.args.out.now c.requires _ is;
      measured =
          choose-measured t c.args.editions c.args.stream.now c.args.table.now c.args.count c.args.list.now c.args.out.now c.requires _ is;
    }

pub returns-in-Err-Past : goal.returns-in-Err-Past
returns-in-Err-Past c =
    let met = choose-past (told c.args.key.now c.args.font.now c.args.layout) c.args.editions c.args.stream.now c.args.table.now c.args.count c.args.list.now c.args.out.now
    c.requires _
    (ap Err (sym c.in-Err-Past.field-0-is) ∙ sym c.in-Err-Past.is ∙ c.judge_items.ensures) in
    record { value = met.0; out_after = met.1 }

pub returns-in-Err-NoLine : goal.returns-in-Err-NoLine
returns-in-Err-NoLine c =
    let met = choose-no-line (told c.args.key.now c.args.font.now c.args.layout) c.args.editions c.args.stream.now c.args.table.now c.args.count c.args.list.now c.args.out.now
    c.requires _
    (ap Err (sym c.in-Err-NoLine.field-0-is) ∙ sym c.in-Err-NoLine.is ∙ c.judge_items.ensures) in
    record { value = met.0; out_after = met.1 }

pub returns-in-Ok : goal.returns-in-Ok
returns-in-Ok c =
    let met = choose-good (told c.args.key.now c.args.font.now c.args.layout) c.args.editions c.args.stream.now c.args.table.now c.args.count c.args.list.now c.args.out.now
    c.requires _
    (sym c.in-Ok.is ∙ c.judge_items.ensures)
    c.fill.result _ c.fill.ensures.value c.fill.ensures.out_after in
    record { value = met.0; out_after = met.1 }
