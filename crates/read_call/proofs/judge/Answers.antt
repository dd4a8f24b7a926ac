-- `judge` meets its promise: 2, 4, then the stretch's own. Assumes nothing.
use native.Mathlib.Omega.{arith}
use Rattle.read_call.proofs.Handed.{bad-key, bad-font, small, handed}
use Rattle.read_call.proofs.judge.Goals as goal

pub returns-then-key-ne-KEY_LENGTH : goal.returns-then-key-ne-KEY_LENGTH
returns-then-key-ne-KEY_LENGTH c = let met = bad-key c.args.key.now c.args.font.now c.args.asked c.args.stretch.now c.args.line.now
    c.if-key-ne-KEY_LENGTH.true _ c.refused.ensures in
    record { value = met.0; line_after = met.1 }

pub returns-then-font-ne-DIGEST_LENGTH : goal.returns-then-font-ne-DIGEST_LENGTH
returns-then-font-ne-DIGEST_LENGTH c = let met = bad-font c.args.key.now c.args.font.now c.args.asked c.args.stretch.now
    c.args.line.now c.if-key-ne-KEY_LENGTH.false c.if-font-ne-DIGEST_LENGTH.true _ c.refused-then-font-ne-DIGEST_LENGTH.ensures in
    record { value = met.0; line_after = met.1 }

pub returns-then-line-lt-LONGEST_LINE : goal.returns-then-line-lt-LONGEST_LINE
returns-then-line-lt-LONGEST_LINE c = let met = small c.args.key.now c.args.font.now c.args.asked
    c.args.stretch.now c.args.line.now (omega arith) (omega arith) c.if-line-lt-LONGEST_LINE.true _ c.refused-then-line-lt-LONGEST_LINE.ensures in
    record { value = met.0; line_after = met.1 }

pub returns : goal.returns
returns c =
    let m = c.judge_stretch.ensures in
    let met = handed c.args.key.now c.args.font.now c.args.asked c.args.stretch.now c.args.line.now (omega arith) (omega arith) (omega arith) _ _ m.value m.line_after in
    record { value = met.0; line_after = met.1 }
