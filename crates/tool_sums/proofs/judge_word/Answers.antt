-- `judge_word` meets its promise: each test is one of the definition's. Assumes nothing.
use mathlib.Core.Path.{sym, ◌∙◌}
use borrow.Author.Tests.{eq-eqb, ne_eqb, lt-ltb, le-ltb}
use lib.ListN.{length, get_or}
use Rattle.tool_sums.specs.Sums.{digit_named, named_by}
use Rattle.tool_sums.proofs.judge_word.Goals as goal

pub returns-then-compare : goal.returns-then-compare
unfolding named_by digit_named
returns-then-compare c = rw (sym c.compare.ensures ∙ c.if-compare.true)

pub returns-then-word-ne1 : goal.returns-then-word-ne1
unfolding named_by digit_named
returns-then-word-ne1 c = rw (
  sym c.compare.ensures ∙ c.if-compare.false,
  ne_eqb
      (length c.args.word.now) 1 c.if-word-ne1.true,
)

pub returns-then-digit-lt-ONE : goal.returns-then-digit-lt-ONE
unfolding named_by digit_named
returns-then-digit-lt-ONE c = rw (
  sym c.compare.ensures ∙ c.if-compare.false,
  eq-eqb
      (length c.args.word.now) 1 c.if-word-ne1.false,
  lt-ltb
      (get_or c.args.word.now 0 0) 0x31 c.if-digit-lt-ONE.true,
)

pub returns-then-digit-gt-NINE : goal.returns-then-digit-gt-NINE
unfolding named_by digit_named
returns-then-digit-gt-NINE c =
    rw (
      sym c.compare.ensures ∙ c.if-compare.false,
      eq-eqb
          (length c.args.word.now) 1 c.if-word-ne1.false,
      le-ltb
          (get_or c.args.word.now 0 0) 0x31 c.if-digit-lt-ONE.false,
      lt-ltb 0x39
          (get_or c.args.word.now 0 0) c.if-digit-gt-NINE.true,
    )

pub returns : goal.returns
unfolding named_by digit_named
returns c =
    rw (
      sym c.compare.ensures ∙ c.if-compare.false,
      eq-eqb
          (length c.args.word.now) 1 c.if-word-ne1.false,
      le-ltb
          (get_or c.args.word.now 0 0) 0x31 c.if-digit-lt-ONE.false,
      le-ltb 0x39
          (get_or c.args.word.now 0 0) c.if-digit-gt-NINE.false,
    )
