-- `nonce_given` meets its promise. Assumes nothing.
use Rattle.live_call.proofs.Reading.{of-line, of_other}
use Rattle.live_call.proofs.nonce_given.Goals as goal

pub returns-then-report-eq-LINE : goal.returns-then-report-eq-LINE
returns-then-report-eq-LINE c = of-line c.args.answer c.args.stretch.now _
    c.numbers-report.ensures c.if-report-eq-LINE.true _ c.nonce_of-nonce.ensures

pub returns : goal.returns
returns c = of_other c.args.answer c.args.stretch.now _
    c.numbers-report.ensures c.if-report-eq-LINE.false
