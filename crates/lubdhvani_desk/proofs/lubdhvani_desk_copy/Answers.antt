-- `lubdhvani_desk_copy` meets its promise: that of `desk`, with the layout that its number names. Assumes nothing.
use mathlib.Core.Path.{◌∙◌, ap}
use Rattle.line_layout.specs.declared.Layout.{Layout}
use Rattle.frame_spec.specs.Told.{told}
use Rattle.desk_spec.specs.Desk.{desk_call, desk_out}
use Rattle.lubdhvani_desk.specs.Reworking.{report_out, reworked_out}
use Rattle.lubdhvani_desk.proofs.lubdhvani_desk_copy.Goals as goal

pub returns : goal.returns
returns c =
    let l = c.layout_of.ensures in
    let d = c.desk-answer.ensures in
    record {
      value =
          c.reworked_of.ensures ∙ ap report_out c.desk_report.ensures ∙ ap reworked_out d.value
          ∙ ap (λ (x : Layout). reworked_out (desk_call (told c.args.key.now c.args.font.now x) c.args.editions c.args.stream.now
          c.args.table.now c.args.count c.args.list.now c.args.out.now)) l;
      out_after =
          d.out_after
          ∙ ap (λ (x : Layout). desk_out (told c.args.key.now c.args.font.now x) c.args.editions c.args.stream.now c.args.table.now
          c.args.count c.args.list.now c.args.out.now) l;
    }
