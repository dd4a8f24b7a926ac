-- `answer_for` meets its promise. Assumes nothing.
use Rattle.frame_spec.specs.Told.{told}
use Rattle.live_call.proofs.Calling.{waiting, reading}
use Rattle.live_call.proofs.answer_for.Goals as goal

pub returns-then-first-closing : goal.returns-then-first-closing
returns-then-first-closing c =
    let a = c.args in
    let its = waiting (told a.key.now a.font.now a.asked.layout) a.asked a.taking a.window.now a.line.now c.if-first-closing.true _
    c.no_reading.ensures in
    record { value = its.0; line_after = its.1 }

pub returns : goal.returns
returns c =
    let a = c.args in
    let its = reading (told a.key.now a.font.now a.asked.layout) a.asked a.taking a.window.now a.line.now
    c.if-first-closing.false _ c.read_closed-read.ensures.value _
    c.read_closed-read.ensures.line_after in
    record { value = its.0; line_after = its.1 }
