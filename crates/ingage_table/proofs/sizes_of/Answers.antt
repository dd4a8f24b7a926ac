-- `sizes_of` meets its promise: the comparisons are those of `unknown`, and the row is the definition's. Assumes nothing.
use Rattle.ingage_spec.specs.Instances.{unknown, instance_of, named}
use borrow.Author.Tests.{lt-ltb, le-ltb}
use Rattle.ingage_table.proofs.sizes_of.Goals as goal

pub returns-then-instance-lt1 : goal.returns-then-instance-lt1
unfolding named unknown
returns-then-instance-lt1 c = rw (lt-ltb c.args.instance 1 c.if-instance-lt1.true)

pub returns-then-instance-gt-INSTANCE_COUNT : goal.returns-then-instance-gt-INSTANCE_COUNT
unfolding named unknown
returns-then-instance-gt-INSTANCE_COUNT c = rw (le-ltb c.args.instance 1 c.if-instance-lt1.false, lt-ltb 6 c.args.instance c.if-instance-gt-INSTANCE_COUNT.true)

pub returns : goal.returns
unfolding named unknown instance_of
returns c = rw (
  le-ltb c.args.instance 1 c.if-instance-lt1.false,
  le-ltb 6 c.args.instance
      c.if-instance-gt-INSTANCE_COUNT.false,
)
