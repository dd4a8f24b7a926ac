-- `judge_body` meets its promise: the places told by the three calls of `field_at` tell the edition, and from the last place on `judge_rest`
-- tells the rest. Assumes nothing.
use mathlib.Core.Path.{◌∙◌}
use native.Mathlib.Omega.{arith}
use Rattle.frame_body.proofs.Judging.{edition-one, edition-two}
use Rattle.frame_body.proofs.judge_body.Goals as goal

pub returns-then-cipher-b : goal.returns-then-cipher-b
returns-then-cipher-b c =
    let d = c in
    c.judge_rest.ensures ∙ edition-two d.field_at-digest.ensures d.field_at-behind.ensures d.field_at-cipher.ensures (omega arith)

pub returns-else-cipher-b : goal.returns-else-cipher-b
returns-else-cipher-b c =
    let d = c in
    c.judge_rest-else-cipher-b.ensures ∙ edition-one d.field_at-digest.ensures d.field_at-behind.ensures d.field_at-cipher.ensures (omega arith)
