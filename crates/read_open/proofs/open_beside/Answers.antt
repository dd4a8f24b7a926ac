-- `open_beside` meets its promise: what `open` answered and left in the text is judged. Assumes nothing.
use Rattle.read_open.proofs.Opening.{judged}
use Rattle.read_open.proofs.open_beside.Goals as goal

pub returns : goal.returns
returns c =
    let met = judged c.args.layout c.args.key.now c.args.nonce.now c.args.assoc.now c.args.cipher.now c.args.seal.now c.args.line.now c.args.text.now _ _
    c.open-opened.ensures.answer
    c.open-opened.ensures.message _ _ c.judge_opened.ensures.value
    c.judge_opened.ensures.line_after in
    record { answer = met.0; line = met.1 }
