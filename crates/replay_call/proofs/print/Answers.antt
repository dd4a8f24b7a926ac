-- `print` meets its promise: each test is one of `printed_by`. Assumes nothing.
use mathlib.Core.Path.{sym, ◌∙◌}
use Rattle.replay_call.proofs.Keeping.{print-none, print-same, print-first, print-later}
use Rattle.replay_call.proofs.print.Goals as goal

pub returns-then-not-s : goal.returns-then-not-s
returns-then-not-s c = c.fail.ensures ∙ print-none c.args.s c.args.value.now
    c.if-not-s.true

pub front_is-requires : goal.front_is-requires
front_is-requires c = c.requires

pub returns-then-front_is : goal.returns-then-front_is
returns-then-front_is c =
    print-same c.args.s c.args.value.now c.if-not-s.false (sym c.front_is.ensures ∙ c.if-front_is.true)

pub returns-then-s-eq0 : goal.returns-then-s-eq0
returns-then-s-eq0 c =
    print-first c.args.s c.args.value.now c.if-not-s.false
    (sym c.front_is.ensures ∙ c.if-front_is.false) c.if-s-eq0.true

pub returns-else-s-eq0 : goal.returns-else-s-eq0
returns-else-s-eq0 c =
    print-later c.args.s c.args.value.now c.if-not-s.false
    (sym c.front_is.ensures ∙ c.if-front_is.false) c.if-s-eq0.false
