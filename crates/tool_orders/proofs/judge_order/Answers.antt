-- `judge_order` meets its promise, test by test. Assumes nothing.
use Rattle.tool_orders.specs.Rows.{blank-within, no-digits, no-nonce, line-behind, line-empty}
use native.Mathlib.Omega.{arith}
use Rattle.tool_orders.proofs.judge_order.Goals as goal

pub returns-then-at-ne-NONCE_DIGITS : goal.returns-then-at-ne-NONCE_DIGITS
returns-then-at-ne-NONCE_DIGITS c = no-digits c.args.row.now _ c.first_blank-at.ensures c.if-at-ne-NONCE_DIGITS.true

pub slice_bounds-all_digits-end : goal.slice_bounds-all_digits-end
slice_bounds-all_digits-end c = omega (arith, c.first_blank-at.ensures, blank-within c.args.row.now)

pub returns-then-not-all_digits : goal.returns-then-not-all_digits
returns-then-not-all_digits c = no-nonce c.args.row.now _ c.first_blank-at.ensures
    c.if-at-ne-NONCE_DIGITS.false _ c.all_digits.ensures c.if-not-all_digits.true

pub returns-then-at-row : goal.returns-then-at-row
returns-then-at-row c = line-behind c.args.row.now _
    c.first_blank-at.ensures c.if-at-ne-NONCE_DIGITS.false _ c.all_digits.ensures
    c.if-not-all_digits.false c.if-at-row.true

pub returns : goal.returns
returns c = line-empty c.args.row.now _
    c.first_blank-at.ensures c.if-at-ne-NONCE_DIGITS.false _ c.all_digits.ensures
    c.if-not-all_digits.false c.if-at-row.false
