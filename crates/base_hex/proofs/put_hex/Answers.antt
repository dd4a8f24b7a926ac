use Rattle.std.proofs.Common.{arith}
use Rattle.base_hex.specs.Digits.{written_none, written-more}
use Rattle.base_hex.proofs.put_hex.Goals as goal

pub loop-i-init : goal.loop-i-init
loop-i-init c = written_none _ _

pub loop-i-preserved : goal.loop-i-preserved
loop-i-preserved c = written-more c.loop-i.invariant _ _ (omega arith) (omega arith) c.digit_of.ensures c.digit_of-in-loop-i.ensures
