use Rattle.std.proofs.Common.{arith}
use Rattle.digest_sponge.proofs.Giving.{given-none, given-more, given-all}
use Rattle.digest_sponge.proofs.Sponge.squeeze.Goals as goal

pub loop-k-init : goal.loop-k-init
loop-k-init c = given-none c.args.s c.args.self.fits c.args.self.makes

pub loop-k-preserved : goal.loop-k-preserved
loop-k-preserved c = given-more c.loop-k.invariant c.loop-k-test.true c.turned-next.ensures _ c.tell.ensures

pub returns : goal.returns
returns c = given-all c.loop-k.invariant (omega arith)
