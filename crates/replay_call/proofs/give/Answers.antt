-- `give` meets its promise: what the request comes to is taken over. Assumes nothing.
use Rattle.frame_spec.specs.Told.{told}
use Rattle.replay_call.proofs.Keeping.{kept-given}
use native.Mathlib.Omega.{arith}
use Rattle.replay_call.proofs.give.Goals as goal

pub slice_bounds-request-count : goal.slice_bounds-request-count
slice_bounds-request-count c = omega (arith, c.requires.sound.few, c.requires.sound.room)

pub slice_bounds-request-start : goal.slice_bounds-request-start
slice_bounds-request-start c = omega (arith, c.requires.sound.few, c.requires.sound.room)

pub slice_bounds-request-end : goal.slice_bounds-request-end
slice_bounds-request-end c = omega (arith, c.requires.sound.few, c.requires.sound.room)

pub returns : goal.returns
returns c =
    kept-given c.args.s c.args.buf.now c.requires.sound (told c.args.key.now c.args.font.now c.args.layout) c.args.editions c.requires.layout_value
    c.request-reached.result c.request-reached.ensures
