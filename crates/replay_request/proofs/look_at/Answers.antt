-- `look_at` meets its promise: it tells what `read` answers, and the line in a buffer of zeros. Assumes nothing.
use Rattle.replay_request.proofs.look_at.Goals as goal

pub returns : goal.returns
returns c =
    rw (c.numbers-report.ensures, c.read-reading.ensures.value, c.read-reading.ensures.line_after)
