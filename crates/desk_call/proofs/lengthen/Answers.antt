-- `lengthen` meets its promise: either return is a case of the definition. Assumes nothing.
use borrow.Author.Tests.{lt-ltb, le-ltb}
use Rattle.read_call.specs.Answers.{longest_stream}
use Rattle.desk_call.specs.Steps.{lengthened}
use Rattle.desk_call.proofs.lengthen.Goals as goal

pub returns-then-total-gt-LONGEST_STREAM : goal.returns-then-total-gt-LONGEST_STREAM
unfolding lengthened
returns-then-total-gt-LONGEST_STREAM c = rw (lt-ltb longest_stream c.args.total c.if-total-gt-LONGEST_STREAM.true)

pub returns : goal.returns
unfolding lengthened
returns c = rw (le-ltb longest_stream c.args.total c.if-total-gt-LONGEST_STREAM.false)
