-- `judge_part` meets its promise, answer by answer. Assumes nothing.
use Rattle.tool_sums.specs.Sums.{part_answer}
use Rattle.tool_sums.proofs.Parts.{past-answer, fed-answer}
use Rattle.tool_sums.proofs.judge_part.Goals as goal

pub returns-then-n-window : goal.returns-then-n-window
returns-then-n-window c = past-answer c.args.running c.args.heard
    c.args.window.now _ c.in-Some.is c.if-n-window.true

pub returns-else-n-window : goal.returns-else-n-window
returns-else-n-window c = fed-answer c.args.running
    c.args.heard
    c.args.window.now _ c.in-Some.is
    c.if-n-window.false c.feed_answer.ensures c.fed_sum.ensures

pub returns-in-Again : goal.returns-in-Again
unfolding part_answer
returns-in-Again c = rw c.in-Again.is

pub returns-in-End : goal.returns-in-End
unfolding part_answer
returns-in-End c = rw c.in-End.is

pub returns-in-Failed : goal.returns-in-Failed
unfolding part_answer
returns-in-Failed c = rw c.in-Failed.is
