use Rattle.std.proofs.Common.{◌≡◌, length, arith}
use Rattle.gage_weave.specs.Telling.{put_all}
use Rattle.gage_weave.proofs.put.Goals as goal

pub returns : goal.returns
returns c =
    let e : c.loop-r.r ≡ length c.args.out.now = omega arith in
    put_all c.args.x _ c.loop-r.out (omega arith) (rw e at c.loop-r.invariant)
