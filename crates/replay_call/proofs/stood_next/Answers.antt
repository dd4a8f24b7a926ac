-- `stood_next` meets its promise: each test is one of `stood_next`. Assumes nothing.
use mathlib.Core.Path.{sym, ◌∙◌}
use Rattle.replay_spec.specs.declared.Kind.TheVariants.{Received, Asked, Printed, Bad}
use Rattle.replay_call.proofs.Keeping.{printed-inside}
use Rattle.replay_call.proofs.Standing.{next-fault, next-end, next-printed, next-kind}
use Rattle.replay_call.proofs.stood_next.Goals as goal

pub returns-then-not-is_done : goal.returns-then-not-is_done
returns-then-not-is_done c = c.none_stood.ensures ∙ next-fault c.args.trace.now c.args.s
    (sym c.is_done.ensures ∙ c.if-not-is_done.true)

pub returns-then-s-trace : goal.returns-then-s-trace
returns-then-s-trace c = c.none_stood-then-s-trace.ensures ∙ next-end c.args.trace.now
    c.args.s (sym c.is_done.ensures ∙ c.if-not-is_done.false) c.if-s-trace.true

pub returns-then-not-s : goal.returns-then-not-s
returns-then-not-s c = c.none_stood-then-not-s.ensures ∙ next-printed c.args.trace.now
    c.args.s (sym c.is_done.ensures ∙
    c.if-not-is_done.false) c.if-s-trace.false c.if-not-s.true

pub overflow_sub-printed : goal.overflow_sub-printed
overflow_sub-printed c = (printed-inside c.args.trace.now
    c.args.s.at
    c.event_at-e.result c.event_at-e.ensures c.in-Printed.is).order

pub returns-in-Received : goal.returns-in-Received
returns-in-Received c = c.none_stood-in-Received.ensures ∙ next-kind
    c.args.trace.now
    c.args.s
    (sym c.is_done.ensures ∙ c.if-not-is_done.false)
    c.if-s-trace.false c.if-not-s.false
    c.event_at-e.result c.event_at-e.ensures Received c.in-Received.is

pub returns-in-Asked : goal.returns-in-Asked
returns-in-Asked c = c.none_stood-in-Asked.ensures ∙ next-kind
    c.args.trace.now
    c.args.s
    (sym c.is_done.ensures ∙ c.if-not-is_done.false)
    c.if-s-trace.false c.if-not-s.false
    c.event_at-e.result c.event_at-e.ensures Asked c.in-Asked.is

pub returns-in-Printed : goal.returns-in-Printed
returns-in-Printed c = next-kind c.args.trace.now
    c.args.s
    (sym c.is_done.ensures ∙ c.if-not-is_done.false)
    c.if-s-trace.false c.if-not-s.false
    c.event_at-e.result c.event_at-e.ensures Printed c.in-Printed.is

pub returns-in-Bad : goal.returns-in-Bad
returns-in-Bad c = c.none_stood-in-Bad.ensures ∙ next-kind
    c.args.trace.now
    c.args.s
    (sym c.is_done.ensures ∙ c.if-not-is_done.false)
    c.if-s-trace.false c.if-not-s.false
    c.event_at-e.result c.event_at-e.ensures Bad c.in-Bad.is
