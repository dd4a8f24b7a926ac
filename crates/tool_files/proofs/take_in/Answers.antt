-- `take_in` meets its promise: what goes on was heard, and fits; the buffer takes it in behind what it has. Assumes nothing.
use mathlib.Core.Path.{sym, ◌∙◌}
use native.Mathlib.Omega.{arith}
use borrow.Author.Rules.{rules}
use Rattle.tool_files.proofs.Moving.{taken_none, fits, taken-on, went, came}
use Rattle.tool_files.proofs.take_in.Goals as goal

pub loop-init : goal.loop-init
loop-init g c = (taken_none _, search rules)

pub overflow_sub-more : goal.overflow_sub-more
overflow_sub-more g c =
    (went _ _ _ _ _ (sym c.after_read.ensures ∙ c.in-On.is) c.hear-heard.ensures c.loop.invariant.0.within).0

pub slice_bounds-put-end : goal.slice_bounds-put-end
slice_bounds-put-end g c =
    let w = went _ _ _ _ _ (sym c.after_read.ensures ∙ c.in-On.is) c.hear-heard.ensures c.loop.invariant.0.within in omega (arith, w.1)

pub put-requires : goal.put-requires
put-requires g c =
    fits _ _ _ c.loop.buf (went _ _ _ _ _ (sym c.after_read.ensures ∙ c.in-On.is) c.hear-heard.ensures c.loop.invariant.0.within)

pub returns-in-Ended : goal.returns-in-Ended
returns-in-Ended g c = came c.loop.invariant.0 _ _ _ (sym c.after_read.ensures ∙ c.in-Ended.is)

pub loop-preserved : goal.loop-preserved
loop-preserved g c = (
  taken-on _ _ _ _ (went _ _ _ _ _ (sym c.after_read.ensures ∙ c.in-On.is) c.hear-heard.ensures c.loop.invariant.0.within)
      c.loop.invariant.0 c.put.ensures,
  search rules,
)
