-- `field_at` meets its promise: each test is one of `front`, over the bytes from the place on. Assumes nothing.
use mathlib.Core.Path.{sym, ◌∙◌}
use native.Mathlib.Omega.{arith}
use Rattle.frame_body.proofs.Finding.{too_few, other_tag, other_length, found}
use Rattle.frame_body.proofs.field_at.Goals as goal
use Rattle.frame_body.proofs.field_at.Goals.{then-at-b+then-b-at+else-rule_takes, else-at-b, else-at-b-via-then-at-b+else-b-at, else-at-b-via-else-at-b}

pub returns-then-rule_takes : goal.returns-then-rule_takes
returns-then-rule_takes c =
    let said = c.from-n.ensures ∙ c.from_be_bytes.ensures in
    rw said
    (found c.args.b.now c.args.tag c.args.at c.if-at-b.true c.if-b-at.true (sym (rw said at c.rule_takes.ensures) ∙ c.if-rule_takes.true)
    (omega (arith, said, c.from_be_bytes.type_inv)))

pub returns : goal.returns
returns c =
    let s = c in
    elim c.if-at-b.branch [
      | then-at-b+then-b-at+else-rule_takes w ↦
          let said = w.from-n.ensures ∙ w.from_be_bytes.ensures in
          other_length s.args.b.now s.args.tag s.args.at w.if-at-b.true w.if-b-at.true (sym (rw said at w.rule_takes.ensures) ∙ w.if-rule_takes.false)
      | else-at-b w ↦ elim w.else-at-b.branch [
        | else-at-b-via-then-at-b+else-b-at w' ↦ other_tag s.args.b.now s.args.tag s.args.at w'.if-at-b.true w'.if-b-at.false
        | else-at-b-via-else-at-b w' ↦ too_few s.args.b.now s.args.tag s.args.at (omega arith)
      ]
    ]
