-- `step_over` meets its promise: 1, 2, 3, 4, then what was taken in. Assumes nothing.
use Rattle.live_call.proofs.Calling.{said-no, said-yes, bad-numbers, bad-key, bad-font, too_long, no_room, done}
use native.Mathlib.Omega.{arith}
use borrow.Author.Rules.{rules}
use Rattle.live_call.proofs.step_over.Goals as goal

pub returns-then-not-is_possible : goal.returns-then-not-is_possible
returns-then-not-is_possible c =
    let a = c.args in
    let its = bad-numbers a.key.now a.font.now a.asked a.numbers a.window.now a.piece.now a.line.now
    (said-no a.numbers c.is_possible.ensures c.if-not-is_possible.true) _ c.no_reading.ensures in
    record { value = its.0; window_after = its.1.0; line_after = its.1.1 }

pub returns-then-key-ne-KEY_LENGTH : goal.returns-then-key-ne-KEY_LENGTH
returns-then-key-ne-KEY_LENGTH c =
    let a = c.args in
    let its = bad-key a.key.now a.font.now a.asked a.numbers a.window.now a.piece.now a.line.now
    (said-yes a.numbers c.is_possible.ensures c.if-not-is_possible.false) c.if-key-ne-KEY_LENGTH.true _
    c.no_reading-then-key-ne-KEY_LENGTH.ensures in
    record { value = its.0; window_after = its.1.0; line_after = its.1.1 }

pub returns-then-font-ne-DIGEST_LENGTH : goal.returns-then-font-ne-DIGEST_LENGTH
returns-then-font-ne-DIGEST_LENGTH c =
    let a = c.args in
    let its = bad-font a.key.now a.font.now a.asked a.numbers a.window.now a.piece.now a.line.now
    (said-yes a.numbers c.is_possible.ensures c.if-not-is_possible.false) c.if-key-ne-KEY_LENGTH.false
    c.if-font-ne-DIGEST_LENGTH.true _ c.no_reading-then-font-ne-DIGEST_LENGTH.ensures in
    record { value = its.0; window_after = its.1.0; line_after = its.1.1 }

pub returns-then-piece-numbers : goal.returns-then-piece-numbers
returns-then-piece-numbers c =
    let a = c.args in
    let its = too_long a.key.now a.font.now a.asked a.numbers a.window.now a.piece.now a.line.now
    (said-yes a.numbers c.is_possible.ensures c.if-not-is_possible.false)
    c.if-key-ne-KEY_LENGTH.false c.if-font-ne-DIGEST_LENGTH.false (omega (arith, c.if-piece-numbers.true)) _ c.no_reading-then-piece-numbers.ensures in
    record { value = its.0; window_after = its.1.0; line_after = its.1.1 }

pub returns-then-line-lt-LONGEST_LINE : goal.returns-then-line-lt-LONGEST_LINE
returns-then-line-lt-LONGEST_LINE c =
    let a = c.args in
    let its = no_room a.key.now a.font.now a.asked a.numbers a.window.now a.piece.now a.line.now
    (said-yes a.numbers c.is_possible.ensures
    c.if-not-is_possible.false)
    c.if-key-ne-KEY_LENGTH.false c.if-font-ne-DIGEST_LENGTH.false (omega (arith, c.if-piece-numbers.false))
    c.if-line-lt-LONGEST_LINE.true _ c.no_reading-then-line-lt-LONGEST_LINE.ensures in
    record { value = its.0; window_after = its.1.0; line_after = its.1.1 }

pub take_in-taking-requires : goal.take_in-taking-requires
take_in-taking-requires c =
    let a = c.args in
    record {
      window_len = c.requires;
      n_value = said-yes a.numbers c.is_possible.ensures c.if-not-is_possible.false;
      piece_bound = omega (arith, c.if-piece-numbers.false);
    }

pub answer_for-requires : goal.answer_for-requires
answer_for-requires c = record {
  window_len = (search rules, c.take_in-taking.ensures.first_le_closing);
  sizes = record { key-is = omega arith; font-is = omega arith };
  longest_in_bounds = search rules;
}

pub returns : goal.returns
returns c =
    let a = c.args in
    let its = done a.key.now a.font.now a.asked a.numbers a.window.now a.piece.now a.line.now
    (said-yes a.numbers c.is_possible.ensures c.if-not-is_possible.false)
    c.if-key-ne-KEY_LENGTH.false
    c.if-font-ne-DIGEST_LENGTH.false
    (omega (arith, c.if-piece-numbers.false))
    (omega (arith, c.if-line-lt-LONGEST_LINE.false)) _
    c.take_in-taking.ensures.value _
    c.take_in-taking.ensures.window_after _ _ (c.answer_for.ensures.value, c.answer_for.ensures.line_after) in
    record { value = its.0; window_after = its.1.0; line_after = its.1.1 }
