-- `judge_edition` meets its promise: what `judge_asked` answers decides it, and where nothing bars the body it is opened. Assumes nothing.
use Rattle.std.specs.Prelude.{Option}
use mathlib.Core.Path.{ap, ◌∙◌}
use Rattle.read_bar.specs.declared.Bar.{Bar}
use Rattle.read_bar.specs.Asked.{barred}
use Rattle.frame_body.specs.Fields.{fields_of}
use Rattle.frame_spec.specs.Told.{told}
use Rattle.read_spec.specs.Editions.{among}
use Rattle.read_spec.specs.Judging.{judge_fields}
use Rattle.read_spec.specs.Ceiling as ceiling
use Rattle.read_call.specs.Parts.{judge_parts}
use Rattle.read_call.proofs.Parts.{by-bar, barred-shown}
use Rattle.read_call.proofs.Shown.{passed}
use Rattle.read_call.proofs.judge_edition.Goals as goal

pub returns-in-Some : goal.returns-in-Some
returns-in-Some c =
    let met = barred-shown (told c.args.key.now c.args.font.now c.args.asked.layout) c.args.asked.editions c.args.asked.allowed c.args.body.now
    c.args.edition c.args.n c.requires.parts _ c.judge_asked.ensures _ c.in-Some.is _ c.barred_answer.ensures _ c.refused.ensures c.args.line.now in
    record { value = met.0; line_after = met.1 }

pub returns-in-None : goal.returns-in-None
returns-in-None c =
    let met = passed (ceiling.within c.args.asked.allowed (judge_fields (told c.args.key.now c.args.font.now c.args.asked.layout)
    (among c.args.asked.editions (fields_of c.args.body.now)))) _ c.args.line.now _ _
    (by-bar (told c.args.key.now c.args.font.now c.args.asked.layout) c.args.asked.editions c.args.asked.allowed c.args.body.now c.args.edition c.args.n c.requires.parts _
    c.judge_asked.ensures ∙ ap (λ (x : Option Bar). barred x
    (judge_parts c.args.asked.layout c.args.edition c.args.n c.args.key.now c.args.body.now)) c.in-None.is)
    (c.open_fields.ensures.value, c.open_fields.ensures.line_after) in
    record { value = met.0; line_after = met.1 }
