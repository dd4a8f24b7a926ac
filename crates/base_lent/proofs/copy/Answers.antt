use mathlib.Core.Path.{sym}
use lib.ListN.{length, length-take}
use lib.Seq.{get_or-take}
use Rattle.base_lists.specs.Fill.{filled_none, filled_more, filled-all}
use native.Mathlib.Omega.{arith}
use Rattle.base_lent.proofs.copy.Goals as goal

pub loop-i-init : goal.loop-i-init
loop-i-init c = filled_none _ _ (simp length-take (omega arith))

pub loop-i-preserved : goal.loop-i-preserved
loop-i-preserved c =
    filled_more _ c.loop-i.invariant (simp length-take (omega arith))
    (sym (get_or-take (length c.args.out.now) c.args.src.now c.loop-i.i 0 (omega arith)))

pub returns : goal.returns
returns c = filled-all c.loop-i.invariant (simp length-take (omega arith))
