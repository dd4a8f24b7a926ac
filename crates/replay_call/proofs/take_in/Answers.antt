-- `take_in` meets its promise: the bytes past the limit, or copied behind the stream. Assumes nothing.
use Rattle.replay_call.proofs.Keeping.{kept-past, kept_in}
use native.Mathlib.Omega.{arith}
use Rattle.replay_call.proofs.take_in.Goals as goal

pub overflow_sub-at : goal.overflow_sub-at
overflow_sub-at c = omega (arith, c.requires.few, c.requires.room)

pub returns-then-value-at : goal.returns-then-value-at
returns-then-value-at c =
    rw c.fail.ensures (kept-past c.args.s c.args.value.now c.args.buf.now c.requires c.if-value-at.true)

pub slice_bounds-copy-count : goal.slice_bounds-copy-count
slice_bounds-copy-count c = omega (arith, c.requires.few, c.requires.room)

pub slice_bounds-copy-start : goal.slice_bounds-copy-start
slice_bounds-copy-start c = omega (arith, c.requires.few, c.requires.room)

pub slice_bounds-copy-end : goal.slice_bounds-copy-end
slice_bounds-copy-end c = omega (arith, c.requires.few, c.requires.room)

pub overflow_add-s : goal.overflow_add-s
overflow_add-s c = omega (
  arith,
  c.requires.few,
  c.requires.room,
)

pub returns : goal.returns
returns c =
    kept_in c.args.s c.args.value.now c.args.buf.now c.requires _ c.if-value-at.false c.copy.ensures
