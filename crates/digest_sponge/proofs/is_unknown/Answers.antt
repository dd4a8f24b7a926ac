-- `is_unknown` meets its promise: the two comparisons are those of the definition. Assumes nothing.
use borrow.Author.Tests.{lt-ltb, le-ltb}
use Rattle.digest_spec.specs.Instances.{unknown}
use Rattle.digest_sponge.proofs.is_unknown.Goals as goal

pub returns-then-instance-lt1 : goal.returns-then-instance-lt1
unfolding unknown
returns-then-instance-lt1 c = rw (lt-ltb c.args.instance 1 c.if-instance-lt1.true)

pub returns : goal.returns
unfolding unknown
returns c = rw (le-ltb c.args.instance 1 c.if-instance-lt1.false)
