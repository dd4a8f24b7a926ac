-- `open_line` meets its promise: the lengths are tested first. Assumes nothing.
use Rattle.read_open.proofs.Opening.{too_long, no_room, beside}
use Rattle.read_open.proofs.open_line.Goals as goal

pub returns-then-cipher-gt-LONGEST_LINE : goal.returns-then-cipher-gt-LONGEST_LINE
returns-then-cipher-gt-LONGEST_LINE c =
    let met = too_long c.args.layout c.args.key.now c.args.nonce.now c.args.assoc.now c.args.cipher.now c.args.seal.now c.args.line.now c.if-cipher-gt-LONGEST_LINE.true in
    record { answer = met.0; line = met.1 }

pub returns-then-line-cipher : goal.returns-then-line-cipher
returns-then-line-cipher c =
    let met = no_room c.args.layout c.args.key.now c.args.nonce.now c.args.assoc.now c.args.cipher.now c.args.seal.now c.args.line.now c.if-cipher-gt-LONGEST_LINE.false c.if-line-cipher.true in
    record { answer = met.0; line = met.1 }

pub returns : goal.returns
returns c =
    let met = beside c.args.layout c.args.key.now c.args.nonce.now c.args.assoc.now c.args.cipher.now c.args.seal.now c.args.line.now
    c.if-cipher-gt-LONGEST_LINE.false c.if-line-cipher.false _ _
    c.open_beside.ensures.answer c.open_beside.ensures.line in
    record { answer = met.0; line = met.1 }
