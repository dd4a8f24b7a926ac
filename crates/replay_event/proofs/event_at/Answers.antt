-- `event_at` meets its promise: each test is one of `front`, over the bytes from the place on. Assumes nothing.
use mathlib.Core.Path.{sym, ◌∙◌}
use Prim.Native.Nat.{◌-◌, ◌<◌, ◌≤◌}
use native.Mathlib.Omega.{arith}
use lib.ListN.{length}
use Rattle.base_fields.specs.Fields.{head_length}
use Rattle.replay_event.proofs.Finding.{too_few, other_length, too_short, whole}
use Rattle.replay_event.proofs.event_at.Goals as goal

pub returns-then-at-all : goal.returns-then-at-all
returns-then-at-all c =
    c.bad.ensures ∙ too_few c.args.trace.now c.args.at (omega (arith, c.if-at-all.true))

pub returns-then-left-lt-HEAD_LENGTH : goal.returns-then-left-lt-HEAD_LENGTH
returns-then-left-lt-HEAD_LENGTH c =
    c.bad-then-left-lt-HEAD_LENGTH.ensures ∙ too_few c.args.trace.now c.args.at (omega (arith, c.if-left-lt-HEAD_LENGTH.true, c.if-at-all.false))

pub returns-then-not-rule_takes : goal.returns-then-not-rule_takes
returns-then-not-rule_takes c =
    let said = c.length_said-n.ensures in
    let kind = c.kind_of-kind.ensures in
    c.bad-then-not-rule_takes.ensures ∙ other_length c.args.trace.now c.args.at
    (omega (
      arith,
      c.if-left-lt-HEAD_LENGTH.false,
      c.if-at-all.false,
    ))
    (rw (said, kind) at (sym c.rule_takes.ensures ∙ c.if-not-rule_takes.true))

pub returns-then-left-n : goal.returns-then-left-n
returns-then-left-n c =
    let said = c.length_said-n.ensures in
    let kind = c.kind_of-kind.ensures in
    let short : length c.args.trace.now - c.args.at - head_length < c.length_said-n.result = c.if-left-n.true in
    c.bad-then-left-n.ensures ∙ too_short c.args.trace.now c.args.at
    (omega (
      arith,
      c.if-left-lt-HEAD_LENGTH.false,
      c.if-at-all.false,
    ))
    (rw (said, kind) at (sym c.rule_takes.ensures ∙ c.if-not-rule_takes.false)) (rw said at short)

pub returns : goal.returns
returns c =
    let said = c.length_said-n.ensures in
    let kind = c.kind_of-kind.ensures in
    let long : c.length_said-n.result ≤ length c.args.trace.now - c.args.at - head_length = c.if-left-n.false in
    rw (said, kind) (whole c.args.trace.now c.args.at (omega (
      arith,
      c.if-left-lt-HEAD_LENGTH.false,
      c.if-at-all.false,
    ))
    (rw (said, kind) at (sym c.rule_takes.ensures ∙ c.if-not-rule_takes.false)) (rw said at long))
