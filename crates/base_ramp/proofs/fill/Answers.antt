use Rattle.std.proofs.Common.{refl, arith}
use Rattle.base_ramp.specs.Rule.{ramped-none, ramped-more}
use Rattle.base_ramp.proofs.fill.Goals as goal

pub loop-b-init : goal.loop-b-init
loop-b-init c = ramped-none _ _ _

pub loop-b-preserved : goal.loop-b-preserved
loop-b-preserved c = ramped-more c.loop-b.invariant _ (omega arith) refl
