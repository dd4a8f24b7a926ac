-- `replay` meets its promise: 2, 4, or what the run of all events comes to. Assumes nothing.
use Rattle.std.specs.Prelude.{Result, ⊤}
use mathlib.Core.Path.{sym, ap, ◌∙◌}
use Rattle.frame_spec.specs.Told.{told}
use Rattle.replay_spec.specs.declared.ReplayFault.{ReplayFault}
use Rattle.replay_spec.specs.Press.{is_done}
use Rattle.replay_spec.specs.Answers.{replayed_as}
use Rattle.replay_call.proofs.Answering.{not-refused, replay-refused, replay-done, replay-faulty}
use Rattle.replay_call.proofs.replay.Goals as goal

pub returns-then-not-is_done : goal.returns-then-not-is_done
returns-then-not-is_done c =
    let t = told c.args.key.now c.args.font.now c.args.layout in
    let x = replay-refused t c.args.editions c.args.trace.now c.args.buf.now
    (ap is_done (sym c.refusal-first.ensures) ∙ sym c.is_done.ensures ∙ c.if-not-is_done.true) in record { value = c.refused.ensures ∙ ap (λ (a : Result ⊤ ReplayFault). replayed_as a 0 0) c.refusal-first.ensures ∙ x.0; buf_after = x.1 }

pub run-s-requires : goal.run-s-requires
run-s-requires c =
    let t = told c.args.key.now c.args.font.now c.args.layout in
    let n = not-refused t c.args.editions c.args.trace.now c.args.buf.now
    (ap is_done (sym c.refusal-first.ensures) ∙ sym c.is_done.ensures ∙ c.if-not-is_done.false) in record { longest_stream_in_bounds = n.0; layout_value = n.1 }

pub returns-then-is_done : goal.returns-then-is_done
returns-then-is_done c =
    let t = told c.args.key.now c.args.font.now c.args.layout in
    let n = not-refused t c.args.editions c.args.trace.now c.args.buf.now
    (ap is_done (sym c.refusal-first.ensures) ∙ sym
    c.is_done.ensures ∙ c.if-not-is_done.false) in let met = replay-done t c.args.editions c.args.trace.now c.args.buf.now n.1 n.0 _ _ c.run-s.ensures
    (sym c.is_done-2.ensures ∙ c.if-is_done.true) in
    record { value = met.0; buf_after = met.1 }

pub returns : goal.returns
returns c =
    let t = told c.args.key.now c.args.font.now c.args.layout in
    let n = not-refused t c.args.editions c.args.trace.now c.args.buf.now
    (ap is_done (sym c.refusal-first.ensures) ∙ sym
    c.is_done.ensures ∙ c.if-not-is_done.false) in let met = replay-faulty t c.args.editions c.args.trace.now c.args.buf.now n.1 n.0 _ _ c.run-s.ensures
    (sym c.is_done-2.ensures ∙ c.if-is_done.false) in
    record { value = met.0; buf_after = met.1 }
