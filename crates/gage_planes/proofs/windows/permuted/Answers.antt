use Prim.Native.Nat.{◌+◌}
use Rattle.gage_planes_spec.proofs.Rounding.{leader-at}
use Rattle.gage_planes_spec.specs.Both.{OnwardBoth}
use Rattle.gage_planes_spec.proofs.Both.{onward-none, onward-four, onward-one, both-all}
use native.Mathlib.Omega.{arith}
use borrow.Author.Rules.{rules}
use Rattle.gage_planes.proofs.windows.permuted.Goals as goal

pub loop-i-init : goal.loop-i-init
loop-i-init c =
    (search rules, search rules, onward-none _ _ _)

pub loop-i-preserved : goal.loop-i-preserved
loop-i-preserved c =
    let begun = c in
    let t = begun.table-leaders.ensures in
    let start = begun in
    let at = c.loop-i in
    let i = at.i in (
      search rules,
      search rules,
      onward-four c.args.h _ (search rules) (search rules) begun.ones-m.ensures _ _ _ _ i at.invariant.0 (search rules)
          (leader-at t i (search rules)) (leader-at t (i + 1) (search rules)) (leader-at t (i + 2) (search rules)) (leader-at t (i + 3) (search rules))
          c.four-q.ensures c.drawn-r.ensures at.invariant.2,
    )

pub loop-i-2-init : goal.loop-i-2-init
loop-i-2-init c =
    (search rules, search rules, onward-none _ _ _)

pub overflow_add-i-in-loop-i-2-2 : goal.overflow_add-i-in-loop-i-2-2
overflow_add-i-in-loop-i-2-2 c =
    omega (arith, c.loop-i-2-test.true, c.requires.3)

pub loop-i-2-preserved : goal.loop-i-2-preserved
loop-i-2-preserved c =
    let begun = c in
    let t = begun.table-leaders.ensures in
    let start = begun in
    let at = c.loop-i-2 in
    let i = at.i in (
      search rules,
      search rules,
      onward-one c.args.h _ (search rules) (search rules) begun.ones-m.ensures _ i at.invariant.0 (search rules)
          (leader-at t i (search rules)) c.turned-q.ensures c.drawn-r-in-loop-i-2.ensures at.invariant.2,
    )

pub returns : goal.returns
returns c =
    let begun = c in
    let t = begun.table-leaders.ensures in
    let start = begun in
    let h = c.args.h in
    let all : OnwardBoth h 1 begun.substituted-r.result c.loop-i-2.i c.loop-i-2.r =
    record { from = λ s l b a. c.loop-i-2.invariant.2.from s l b (c.loop-i.invariant.2.from s l b a) } in
    (both-all h _ (search rules) (search rules) begun.ones-m.ensures _ c.loop-i-2.i c.args.k (leader-at t 0 (omega arith))
    begun.drawn.ensures begun.substituted-r.ensures all (search rules))
