-- `judge_asked` meets its promise: each test is one of the order's, and the two of the work are one over its sum. Assumes nothing.
use mathlib.Core.Path.{sym, ◌∙◌}
use native.Mathlib.Omega.{arith}
use Rattle.read_bar.proofs.Asking.{other-edition, other-font, too_much, enough}
use Rattle.read_bar.proofs.judge_asked.Goals as goal

pub returns-then-not-allows : goal.returns-then-not-allows
returns-then-not-allows c =
    other-edition c.args.editions c.args.calls c.args.edition c.args.n c.args.digest.now c.args.font.now (sym c.allows.ensures ∙ c.if-not-allows.true)

pub returns-then-not-compare : goal.returns-then-not-compare
returns-then-not-compare c =
    other-font c.args.editions c.args.calls c.args.edition c.args.n c.args.digest.now c.args.font.now
    (sym c.allows.ensures ∙ c.if-not-allows.false)
    (sym c.compare.ensures ∙ c.if-not-compare.true)

pub returns-then-calls-beside : goal.returns-then-calls-beside
returns-then-calls-beside c =
    too_much c.args.editions c.args.calls c.args.edition c.args.n c.args.digest.now c.args.font.now
    (sym c.allows.ensures ∙ c.if-not-allows.false)
    (sym c.compare.ensures ∙ c.if-not-compare.false)
    (omega (arith, c.if-calls-beside.true, c.beside_line-beside.ensures))

pub returns-then-left-n : goal.returns-then-left-n
returns-then-left-n c =
    too_much c.args.editions c.args.calls c.args.edition c.args.n c.args.digest.now c.args.font.now
    (sym c.allows.ensures ∙ c.if-not-allows.false)
    (sym c.compare.ensures ∙ c.if-not-compare.false)
    (omega (arith, c.if-left-n.true, c.if-calls-beside.false, c.beside_line-beside.ensures))

pub returns : goal.returns
returns c =
    enough c.args.editions c.args.calls c.args.edition c.args.n c.args.digest.now c.args.font.now
    (sym c.allows.ensures ∙ c.if-not-allows.false)
    (sym c.compare.ensures ∙ c.if-not-compare.false)
    (omega (arith, c.if-left-n.false, c.if-calls-beside.false, c.beside_line-beside.ensures))
