-- `read_kept` meets its promise: the stretch is judged, and a line has its nonce. Assumes nothing.
use Rattle.frame_spec.specs.Told.{told}
use Rattle.live_call.proofs.Reading.{read_is}
use Rattle.live_call.proofs.read_kept.Goals as goal

pub returns : goal.returns
returns c =
    let s = c in
    let a = s.args in
    let its = read_is (told a.key.now a.font.now a.asked.layout) a.asked a.stretch.now a.line.now s.requires.sizes s.requires.longest_in_bounds _
    c.judge-verdict.ensures.value _ c.nonce_given-nonce.ensures _ c.judge-verdict.ensures.line_after in
    record { value = its.0; line_after = its.1 }
