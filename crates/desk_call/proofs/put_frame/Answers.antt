-- `put_frame` meets its promise: a mark, the stretch's bytes, and a mark. Assumes nothing.
use lib.ListN.{length-set}
use Rattle.frame_stuff_spec.specs.Stuffing.{mark}
use Rattle.desk_call.proofs.Copying.{in_order, in-stream, frame-long, frame-put}
use native.Mathlib.Omega.{arith}
use Rattle.desk_call.proofs.put_frame.Goals as goal

pub bounds-out-at : goal.bounds-out-at
bounds-out-at c =
    let s = c.args.stream.now in
    let x = c.requires.stretch in
    let p = c.next_span-span.result in
    let e = c.next_span-span.ensures in
    omega (
      arith,
      c.requires.place_in_bounds,
      frame-long s c.args.place x p e,
      in_order s c.args.place x p e,
      in-stream s c.args.place x p e,
      length-set
          c.args.out.now c.args.at mark,
    )

pub slice_bounds-copy-count-2 : goal.slice_bounds-copy-count-2
slice_bounds-copy-count-2 c =
    let s = c.args.stream.now in
    let x = c.requires.stretch in
    let p = c.next_span-span.result in
    let e = c.next_span-span.ensures in
    omega (
      arith,
      c.requires.place_in_bounds,
      frame-long s c.args.place x p e,
      in_order s c.args.place x p e,
      in-stream s c.args.place x p e,
      length-set c.args.out.now c.args.at mark,
    )

pub slice_bounds-copy-start-2 : goal.slice_bounds-copy-start-2
slice_bounds-copy-start-2 c =
    let s = c.args.stream.now in
    let x = c.requires.stretch in
    let p = c.next_span-span.result in
    let e = c.next_span-span.ensures in
    omega (
      arith,
      c.requires.place_in_bounds,
      frame-long s c.args.place x p e,
      in_order s c.args.place x p e,
      in-stream s c.args.place x p e,
      length-set c.args.out.now c.args.at mark,
    )

pub bounds-out-end : goal.bounds-out-end
bounds-out-end c =
    let s = c.args.stream.now in
    let x = c.requires.stretch in
    let p = c.next_span-span.result in
    let e = c.next_span-span.ensures in
    omega (
      arith,
      c.requires.place_in_bounds,
      frame-long s c.args.place x p e,
      in_order s c.args.place x p
          e,
      in-stream s c.args.place x p e,
      length-set c.args.out.now c.args.at mark,
    )

pub returns : goal.returns
returns c =
    let s = c.args.stream.now in
    let x = c.requires.stretch in
    let p = c.next_span-span.result in
    let e = c.next_span-span.ensures in
    let h = c.requires.place_in_bounds in
    record {
      value = omega (arith, frame-long s c.args.place x p e, in_order s c.args.place x p e, in-stream s c.args.place x p e, length-set c.args.out.now c.args.at mark);
      out_after = frame-put s c.args.place x p e c.args.out.now c.args.at h _ c.copy.ensures;
    }
