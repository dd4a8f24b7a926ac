-- `value_at` meets its promise: each test is one of `front`, over the bytes from the place on. Assumes nothing.
use mathlib.Core.Path.{sym, ◌∙◌}
use mathlib.Core.List.{List}
use Prim.Native.Nat.{ℕ, ◌-◌, ◌<◌, ◌≤◌}
use native.Mathlib.Omega.{arith}
use lib.ListN.{length, take, drop, length-drop, length-take}
use Rattle.base_fields.specs.Fields.{head_length}
use Rattle.bundle_read.proofs.Reading.{too_few, other_tag, other_length, too_short, whole, read_off}
use Rattle.bundle_read.proofs.value_at.Goals as goal
use Rattle.bundle_read.proofs.value_at.Goals.{else-first-tag-via-then-first-tag+then-rule_takes+else-n-rest, else-first-tag-via-then-first-tag+else-rule_takes, else-first-tag-via-else-first-tag}

-- the bytes from the place on
abbrev left : List ℕ → ℕ → List ℕ
left b at = take (length b - at) (drop at b)

pub returns-in_default : goal.returns-in_default
returns-in_default c =
    read_off c.args.b.now c.args.at c.args.tag c.requires
    (too_few (left c.args.b.now c.args.at) 0 c.args.tag (omega arith) (omega (arith, c.in_default.len_below)))

pub returns-then-n-rest : goal.returns-then-n-rest
returns-then-n-rest c =
    let s = left c.args.b.now c.args.at in
    let is = c.if-first-tag.true in
    let said = c.length_said-n.ensures in
    let fits : c.length_said-n.result ≤ length s - 0 - head_length = omega (arith, c.if-n-rest.true, length-take {A = ℕ}, length-drop {A = ℕ}) in
    read_off c.args.b.now c.args.at c.args.tag c.requires
    (said ∙ whole s 0 c.args.tag (omega arith) c.in-len3-up.len_at_least is
    (rw is (rw said at (sym c.rule_takes.ensures ∙ c.if-rule_takes.true))) (rw said at fits))

pub returns-else-first-tag : goal.returns-else-first-tag
returns-else-first-tag c =
    let s = left c.args.b.now c.args.at in
    let enough = c.in-len3-up.len_at_least in
    let said = c.length_said-n.ensures in
    read_off c.args.b.now c.args.at c.args.tag c.requires
    (elim c.else-first-tag.branch [
      | else-first-tag-via-then-first-tag+then-rule_takes+else-n-rest w ↦
          let short : length s - 0 - head_length < c.length_said-n.result = omega (arith, w.if-n-rest.false, length-take {A = ℕ}, length-drop {A = ℕ}) in
          too_short s 0 c.args.tag (omega arith) enough w.if-first-tag.true
          (rw w.if-first-tag.true (rw said at (sym w.rule_takes.ensures ∙ w.if-rule_takes.true))) (rw said at short)
      | else-first-tag-via-then-first-tag+else-rule_takes w ↦
          other_length s 0 c.args.tag (omega arith) enough w.if-first-tag.true
          (rw w.if-first-tag.true (rw said at (sym w.rule_takes.ensures ∙ w.if-rule_takes.false)))
      | else-first-tag-via-else-first-tag w ↦ other_tag s 0 c.args.tag (omega arith) enough w.if-first-tag.false
    ])
