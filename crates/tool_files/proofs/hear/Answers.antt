-- `hear` meets its promise: a count is within the chunk, by the promise of every read, and an error has none. Assumes nothing.
use mathlib.Core.Path.{ap, ◌∙◌}
use mathlib.Core.Bool.{false}
use lib.IntN.{ℤ}
use mir.Syntax.{w64}
use mir.Facts.{to_z_pos}
use borrow.Author.Rules.{rules}
use Rattle.tool_files.specs.Loading.{heard_of}
use Rattle.tool_files.proofs.Answers.{count-within, error_within}
use Rattle.tool_files.proofs.hear.Goals as goal

pub returns-in-Ok : goal.returns-in-Ok
returns-in-Ok g c = count-within c.in-Ok.n _ _
    (c.judge_read.ensures ∙ ap (λ (z : ℤ). heard_of z false) (to_z_pos w64 (search rules))) c.in-Ok.ensures.bound.0

pub returns-in-Err : goal.returns-in-Err
returns-in-Err g c = error_within 0 _ _ _ c.judge_read-in-Err.ensures
