use mathlib.Core.Path.{refl}
use lib.ListN.{get_or}
use Rattle.desk_call.proofs.Copying.{copying-none, copying-all, copying-start, put-ready, put-more}
use native.Mathlib.Omega.{arith}
use Rattle.desk_call.proofs.copy_frames.Goals as goal

pub put_frame-at-requires : goal.put_frame-at-requires
put_frame-at-requires c = let met = put-ready c.requires.list_in_bounds
    c.loop-i.invariant c.loop-i-test.true
    (get_or c.args.list.now c.loop-i.i-index 0) refl
    c.place_at.result c.place_at.ensures in
    record { stretch = met.0; place_in_bounds = met.1 }

pub loop-i-preserved : goal.loop-i-preserved
loop-i-preserved c = put-more c.requires.list_in_bounds
    c.loop-i.invariant c.loop-i-test.true
    (get_or c.args.list.now
    c.loop-i.i-index 0) refl c.place_at.result
    c.place_at.ensures _ c.put_frame-at.result c.put_frame-at.ensures.out_after
    c.put_frame-at.ensures.value

pub returns : goal.returns
returns c = copying-all c.requires.list_in_bounds c.loop-i.invariant (omega (arith, c.loop-i-test.false))
