-- `read_closed` meets its promise: 7 where the window can't hold the stretch, else its bytes are judged. Assumes nothing.
use mathlib.Core.Path.{sym, ap, ◌∙◌}
use Rattle.frame_spec.specs.Told.{told}
use Rattle.read_spec.specs.Judged.{Judged}
use Rattle.read_call.specs.Answers.{line_over}
use Rattle.live_call.specs.Parts.{read_of}
use Rattle.live_call.proofs.Reading.{over-long-is, kept-is}
use Rattle.live_call.proofs.read_closed.Goals as goal

pub returns-then-bytes : goal.returns-then-bytes
returns-then-bytes c =
    let a = c.args in
    let e = over-long-is (told a.key.now a.font.now a.asked.layout) a.asked a.window.now a.first a.closing c.if-bytes.true in record { value = c.over_long.ensures ∙ ap read_of (sym e); line_after = ap (λ (j : Judged). line_over j a.line.now) (sym e) }

pub returns : goal.returns
returns c =
    let a = c.args in
    let e = kept-is (told a.key.now a.font.now a.asked.layout) a.asked a.window.now a.first a.closing
    c.if-bytes.false in record {
      value = c.read_kept.ensures.value ∙ ap read_of (sym e);
      line_after = c.read_kept.ensures.line_after ∙ ap (λ (j : Judged). line_over j a.line.now)
          (sym e);
    }
