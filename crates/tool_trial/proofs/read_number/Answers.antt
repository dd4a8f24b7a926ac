use Rattle.tool_trial.proofs.Reading.{no_word, read_none, read_low, read-high, read_more, read_all}
use native.Mathlib.Omega.{arith}
use borrow.Author.Rules.{rules}
use Rattle.tool_trial.proofs.read_number.Goals as goal
use Rattle.tool_trial.proofs.read_number.Goals.{then-c-lt-ZERO-via-then-c-lt-ZERO, then-c-lt-ZERO-via-else-c-lt-ZERO+then-c-gt-NINE}

pub returns-then-is_empty : goal.returns-then-is_empty
returns-then-is_empty c = no_word c.args.word.now (search rules)

pub loop-c-init : goal.loop-c-init
loop-c-init c = read_none c.args.word.now (search rules)

pub returns-then-c-lt-ZERO : goal.returns-then-c-lt-ZERO
returns-then-c-lt-ZERO c = elim c.then-c-lt-ZERO.branch [
  | then-c-lt-ZERO-via-then-c-lt-ZERO w ↦ read_low c.loop-c.invariant c.loop-c-test.true w.if-c-lt-ZERO.true
  | then-c-lt-ZERO-via-else-c-lt-ZERO+then-c-gt-NINE w ↦
      read-high c.loop-c.invariant c.loop-c-test.true (omega (arith, w.if-c-lt-ZERO.false)) (omega (arith, w.if-c-gt-NINE.true))
]

pub loop-c-preserved : goal.loop-c-preserved
loop-c-preserved c =
    read_more c.loop-c.invariant c.loop-c-test.true
    (omega (arith, c.if-c-lt-ZERO.false))
    (omega (arith, c.if-c-gt-NINE.false)) c.grow-v.result c.grow-v.ensures

pub returns : goal.returns
returns c = read_all c.loop-c.invariant c.loop-c-test.false
