-- `stood` meets its promise: 2, 4, nothing at event 0, or what stands behind the events before. Assumes nothing.
use Rattle.std.specs.Prelude.{Result, ⊤}
use mathlib.Core.Path.{sym, ap, ◌∙◌}
use Rattle.frame_spec.specs.Told.{told}
use Rattle.replay_spec.specs.declared.ReplayFault.{ReplayFault}
use Rattle.replay_spec.specs.Press.{is_done}
use Rattle.replay_spec.specs.Answers.{none_stood}
use Rattle.replay_call.proofs.Answering.{not-refused, stood-refused, stood-zero, stood-ran}
use Rattle.replay_call.proofs.stood.Goals as goal

pub returns-then-not-is_done : goal.returns-then-not-is_done
returns-then-not-is_done c =
    let t = told c.args.key.now c.args.font.now c.args.layout in
    let x = stood-refused t c.args.editions c.args.trace.now c.args.buf.now c.args.event
    (ap is_done (sym c.refusal-first.ensures) ∙ sym c.is_done.ensures ∙ c.if-not-is_done.true) in record { value = c.none_stood.ensures ∙ ap (λ (a : Result ⊤ ReplayFault). none_stood a 0) c.refusal-first.ensures ∙ x.0; buf_after = x.1 }

pub returns-then-event-eq0 : goal.returns-then-event-eq0
returns-then-event-eq0 c =
    let t = told c.args.key.now c.args.font.now c.args.layout in
    let n = not-refused t c.args.editions c.args.trace.now c.args.buf.now
    (ap is_done (sym c.refusal-first.ensures) ∙ sym c.is_done.ensures ∙ c.if-not-is_done.false) in
    let x = stood-zero t c.args.editions c.args.trace.now c.args.buf.now c.args.event n.1 n.0 c.if-event-eq0.true in record { value = c.none_stood-then-event-eq0.ensures ∙ x.0; buf_after = x.1 }

pub run-s-requires : goal.run-s-requires
run-s-requires c =
    let t = told c.args.key.now c.args.font.now c.args.layout in
    let n = not-refused t c.args.editions c.args.trace.now c.args.buf.now
    (ap is_done (sym c.refusal-first.ensures) ∙ sym c.is_done.ensures ∙ c.if-not-is_done.false) in record { longest_stream_in_bounds = n.0; layout_value = n.1 }

pub returns : goal.returns
returns c =
    let t = told c.args.key.now c.args.font.now c.args.layout in
    let n = not-refused t c.args.editions c.args.trace.now c.args.buf.now
    (ap is_done (sym c.refusal-first.ensures) ∙ sym
    c.is_done.ensures ∙ c.if-not-is_done.false) in
    let x = stood-ran t c.args.editions c.args.trace.now c.args.buf.now c.args.event n.1 n.0
    c.if-event-eq0.false _ _ c.run-s.ensures in record { value = c.stood_next.ensures ∙ x.0; buf_after = x.1 }
