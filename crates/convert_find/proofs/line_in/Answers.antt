-- `line_in` meets its promise: 16 where the stretch is misnamed, else what a reader of the edition named alone finds. Assumes nothing.
use mathlib.Core.Path.{sym, ◌∙◌}
use Rattle.frame_spec.specs.Told.{told}
use Rattle.convert_find.specs.Finding.{found_in, line_in}
use Rattle.convert_find.proofs.Judged.{at-judged}
use Rattle.convert_find.proofs.line_in.Goals as goal

pub returns-then-misnamed : goal.returns-then-misnamed
unfolding found_in line_in
returns-then-misnamed c = let h = sym c.misnamed.ensures ∙ c.if-misnamed.true in record { value = rw h; line_after = rw h }

pub returns : goal.returns
returns c =
    let a = c.args in
    let j = c.judge-verdict in
    let p = at-judged (told a.key.now a.font.now a.layout) a.named a.stretch.now a.line.now
    (sym c.misnamed.ensures ∙ c.if-misnamed.false)
    _ c.only.ensures
    _ _ j.ensures.value j.ensures.line_after _ _ c.converted_of-answer.ensures c.numbers-its.ensures in
    record { value = p.0; line_after = p.1 }
