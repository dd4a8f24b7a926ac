-- `refusal` meets its promise: 2, then 4, then nothing is refused. Assumes nothing.
use borrow.Author.Tests.{lt-ltb, le-ltb}
use Rattle.read_call.specs.Answers.{longest_stream}
use Rattle.replay_call.specs.Holding.{refusal_of}
use Rattle.replay_call.proofs.refusal.Goals as goal

pub returns-then-not-sized : goal.returns-then-not-sized
unfolding refusal_of
returns-then-not-sized c = rw (← c.are_sized-sized.ensures, c.if-not-sized.true)

pub returns-then-small : goal.returns-then-small
unfolding refusal_of
returns-then-small c = rw (← c.are_sized-sized.ensures, c.if-not-sized.false, lt-ltb c.args.room longest_stream c.if-small.true)

pub returns : goal.returns
unfolding refusal_of
returns c = rw (← c.are_sized-sized.ensures, c.if-not-sized.false, le-ltb c.args.room longest_stream c.if-small.false)
