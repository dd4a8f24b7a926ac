-- `judge_line` meets its promise. The invariant: the bytes that are left, judged by what the others hold, are judged as the whole line is.
-- Assumes nothing.
use mathlib.Core.Path.{◌≡◌}
use lib.ListN.{drop}
use Rattle.line_spec.specs.Lines.{line_rule}
use Rattle.line_judge.specs.Passing.{passed}
use Rattle.line_judge.proofs.judge_line.Given as goal

abbrev pub invariant-loop-b : goal.invariant-loop-b
invariant-loop-b l = passed l.met (drop l.b-index l.line) ≡ line_rule l.line
