-- `judge_read` meets its promise: its tests are of what the machine reads back from the answer's bits, which is the answer. Assumes nothing.
use mathlib.Core.Path.{sym, ap, ◌∙◌}
use mathlib.Core.Bool.{Bool, cond}
use Rattle.tool_files.proofs.Answers.{some, failed, ended, read_back}
use Rattle.tool_files.specs.declared.Heard.TheVariants.{Again, Failed}
use Rattle.tool_files.proofs.judge_read.Goals as goal

pub returns-then-got-gt0 : goal.returns-then-got-gt0
returns-then-got-gt0 c = some _ _ c.if-got-gt0.true ∙ read_back _ _ c.ranges.got

pub returns-then-interrupted : goal.returns-then-interrupted
returns-then-interrupted c = ap (λ (t : Bool). cond t Again Failed) (sym c.if-interrupted.true)
    ∙ failed _ _ c.if-got-lt0.true ∙ read_back _ _ c.ranges.got

pub returns-then-got-lt0 : goal.returns-then-got-lt0
returns-then-got-lt0 c = ap (λ (t : Bool). cond t Again Failed) (sym c.if-interrupted.false)
    ∙ failed _ _ c.if-got-lt0.true ∙ read_back _ _ c.ranges.got

pub returns : goal.returns
returns c = ended _ _ c.if-got-gt0.false c.if-got-lt0.false ∙ read_back _ _ c.ranges.got
