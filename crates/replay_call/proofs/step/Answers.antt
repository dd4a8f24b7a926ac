-- `step` meets its promise: the event at the place reached, by its kind. Assumes nothing.
use Rattle.std.specs.Prelude.{Err}
use Rattle.frame_spec.specs.Told.{told}
use Rattle.replay_spec.specs.declared.Kind.TheVariants.{Received, Asked, Printed, Bad}
use Rattle.replay_spec.specs.declared.ReplayFault.TheVariants.{Field}
use Rattle.replay_spec.specs.Events.{bytes_of}
use Rattle.replay_spec.specs.Answers.{judging}
use Rattle.replay_call.proofs.Keeping.{kept-failed, kept-printed, moved, moved-sound, step_kept, received-inside, printed-inside}
use native.Mathlib.Omega.{arith}
use Rattle.replay_call.proofs.step.Goals as goal

pub slice_bounds-take_in-count : goal.slice_bounds-take_in-count
slice_bounds-take_in-count c =
    let g = received-inside c.args.trace.now
    c.args.s.at c.event_at-e.result
    c.event_at-e.ensures c.in-Received.is in
    omega (arith, g.order, g.within)

pub slice_bounds-take_in-start : goal.slice_bounds-take_in-start
slice_bounds-take_in-start c =
    let g = received-inside c.args.trace.now
    c.args.s.at c.event_at-e.result
    c.event_at-e.ensures c.in-Received.is in
    omega (arith, g.order, g.within)

pub slice_bounds-take_in-end : goal.slice_bounds-take_in-end
slice_bounds-take_in-end c =
    let g = received-inside c.args.trace.now
    c.args.s.at c.event_at-e.result
    c.event_at-e.ensures c.in-Received.is in
    omega (arith, g.order, g.within)

pub slice_bounds-print-count : goal.slice_bounds-print-count
slice_bounds-print-count c =
    let g = printed-inside c.args.trace.now
    c.args.s.at c.event_at-e.result
    c.event_at-e.ensures c.in-Printed.is in
    omega (arith, g.order, g.within)

pub slice_bounds-print-start : goal.slice_bounds-print-start
slice_bounds-print-start c =
    let g = printed-inside c.args.trace.now
    c.args.s.at c.event_at-e.result
    c.event_at-e.ensures c.in-Printed.is in
    omega (arith, g.order, g.within)

pub slice_bounds-print-end : goal.slice_bounds-print-end
slice_bounds-print-end c =
    let g = printed-inside c.args.trace.now
    c.args.s.at c.event_at-e.result
    c.event_at-e.ensures c.in-Printed.is in
    omega (arith, g.order, g.within)

pub returns-in-Received : goal.returns-in-Received
returns-in-Received c =
    let e = c.event_at-e.result in
    step_kept (judging (told c.args.key.now c.args.font.now c.args.layout) c.args.editions) c.args.trace.now c.args.s
    c.args.buf.now _ _ e c.event_at-e.ensures Received
    c.in-Received.is c.take_in.ensures

pub returns-in-Asked : goal.returns-in-Asked
returns-in-Asked c =
    let e = c.event_at-e.result in
    step_kept (judging (told c.args.key.now c.args.font.now c.args.layout) c.args.editions) c.args.trace.now c.args.s
    c.args.buf.now _ _ e c.event_at-e.ensures Asked c.in-Asked.is
    c.give.ensures

pub returns-in-Printed : goal.returns-in-Printed
returns-in-Printed c =
    let e = c.event_at-e.result in
    rw c.print.ensures (step_kept (judging (told c.args.key.now c.args.font.now c.args.layout) c.args.editions) c.args.trace.now
    c.args.s c.args.buf.now _ _ e c.event_at-e.ensures Printed c.in-Printed.is
    (kept-printed (moved c.args.s e) (bytes_of c.args.trace.now e) c.args.buf.now
    (moved-sound c.args.s e c.args.buf.now c.requires.sound)))

pub returns-in-Bad : goal.returns-in-Bad
returns-in-Bad c =
    let e = c.event_at-e.result in
    rw c.fail.ensures (step_kept (judging (told c.args.key.now c.args.font.now c.args.layout) c.args.editions) c.args.trace.now
    c.args.s c.args.buf.now _ _ e c.event_at-e.ensures Bad c.in-Bad.is
    (kept-failed (Err Field) (moved c.args.s e) c.args.buf.now (moved-sound c.args.s e c.args.buf.now c.requires.sound)))
