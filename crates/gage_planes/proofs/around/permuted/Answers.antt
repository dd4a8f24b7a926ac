use Prim.Native.Nat.{◌+◌}
use Rattle.gage_planes_spec.proofs.Rounding.{onward-none, leader-at, around-first, around-more, around-four, kept-all}
use native.Mathlib.Omega.{arith}
use borrow.Author.Rules.{rules}
use Rattle.gage_planes.proofs.around.permuted.Goals as goal

pub loop-i-init : goal.loop-i-init
loop-i-init c = (search rules, search rules, onward-none _ _ _ _)

pub loop-i-preserved : goal.loop-i-preserved
loop-i-preserved c =
    let at = c.loop-i in
    let t = c.table-leaders.ensures in
    let i = at.i in (
      search rules,
      search rules,
      around-four _ _ _ _ i at.invariant.0 (search rules) (leader-at t i (search rules)) (leader-at t (i + 1) (search rules))
          (leader-at t (i + 2) (search rules)) (leader-at t (i + 3) (search rules))
          c.four-r.ensures at.invariant.2,
    )

pub loop-i-2-init : goal.loop-i-2-init
loop-i-2-init c = (search rules, search rules, onward-none _ _ _ _)

pub loop-i-2-preserved : goal.loop-i-2-preserved
loop-i-2-preserved c =
    let at = c.loop-i-2 in (
      search rules,
      search rules,
      around-more _ at.i at.invariant.0 (search rules)
          (leader-at c.table-leaders.ensures at.i (search rules)) c.turned_around-r.ensures at.invariant.2,
    )

pub returns : goal.returns
returns c =
    let t = c.table-leaders.ensures in
    let first = around-first _ (leader-at t 0 (omega arith)).0 (leader-at t 0 (omega arith)).1 c.substituted-r.ensures in
    let grouped = c.loop-i.invariant.2.from c.args.p first in
    (kept-all c.loop-i-2.i c.args.k (c.loop-i-2.invariant.2.from c.args.p grouped) (search rules) (search rules))
