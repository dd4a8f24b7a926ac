use mathlib.Core.Path.{sym, ◌∙◌}
use Rattle.frame_spec.specs.Told.{told}
use Rattle.replay_spec.specs.Answers.{judging}
use Rattle.replay_call.proofs.Running.{running_none, running-all, running-out, running_more, running-stops, counts}
use native.Mathlib.Omega.{arith}
use Rattle.replay_call.proofs.run.Goals as goal

pub loop-s-init : goal.loop-s-init
loop-s-init c = running_none (judging (told c.args.key.now
    c.args.font.now c.args.layout)
    c.args.editions) c.args.trace.now
    c.args.buf.now c.args.limit
    c.requires.longest_stream_in_bounds _ c.begin-s.ensures

pub returns-then-s-trace : goal.returns-then-s-trace
returns-then-s-trace c = running-out (judging (told c.args.key.now
    c.args.font.now
    c.args.layout)
    c.args.editions)
    c.args.trace.now
    c.args.buf.now
    c.args.limit c.loop-s.invariant
    c.if-s-trace.true

pub step-s-requires : goal.step-s-requires
step-s-requires c = record {
  sound = c.loop-s.invariant.sound;
  event_bound = omega (arith, c.loop-s.invariant.events-few, c.if-s-trace.false);
  layout_value = c.requires.layout_value;
}

pub returns-then-not-is_done : goal.returns-then-not-is_done
returns-then-not-is_done c = running-stops
    (judging (told c.args.key.now c.args.font.now c.args.layout) c.args.editions) c.args.trace.now c.args.buf.now c.args.limit c.loop-s.invariant
    c.loop-s-test.true c.if-s-trace.false _ _
    c.step-s.ensures (sym c.is_done.ensures ∙ c.if-not-is_done.true)

pub loop-s-smaller : goal.loop-s-smaller
loop-s-smaller c = omega (
  arith,
  c.loop-s-test.true,
  counts
      (judging (told c.args.key.now c.args.font.now c.args.layout) c.args.editions) c.args.trace.now c.args.buf.now c.args.limit c.loop-s.invariant
      c.loop-s-test.true c.if-s-trace.false _ _
      c.step-s.ensures,
)

pub loop-s-preserved : goal.loop-s-preserved
loop-s-preserved c = running_more
    (judging (told c.args.key.now c.args.font.now c.args.layout) c.args.editions) c.args.trace.now c.args.buf.now c.args.limit c.loop-s.invariant
    c.loop-s-test.true c.if-s-trace.false _ _
    c.step-s.ensures (sym c.is_done.ensures ∙ c.if-not-is_done.false)

pub returns : goal.returns
returns c = running-all (judging (told c.args.key.now
    c.args.font.now
    c.args.layout)
    c.args.editions)
    c.args.trace.now
    c.args.buf.now
    c.args.limit c.loop-s.invariant c.loop-s-test.false
