use mathlib.Core.Path.{refl}
use Prim.Native.Nat.{◌+◌, ◌*◌}
use Rattle.gage_planes_spec.proofs.Rounding.{onward-none, onward-pair, onward-four, leader-at, kept-first, kept-turn, kept-all}
use native.Mathlib.Omega.{arith}
use borrow.Author.Rules.{rules}
use Rattle.gage_planes.proofs.drawn.permuted.Goals as goal

pub loop-i-init : goal.loop-i-init
loop-i-init c = (search rules, search rules, onward-none _ _ _ _)

pub four-q-requires : goal.four-q-requires
four-q-requires c =
    let t = c.table-ls.ensures in
    let i = c.loop-i.i in (
      refl,
      refl,
      (leader-at t i (search rules)).1,
      (leader-at t (i + 1) (search rules)).1,
      (leader-at t (i + 2) (search rules)).1,
      (leader-at t (i + 3)
          (search rules)).1,
    )

pub loop-i-preserved : goal.loop-i-preserved
loop-i-preserved c =
    let begun = c in
    let t = begun.table-ls.ensures in
    let at = begun in
    let room = begun.room-most.ensures in
    let i = c.loop-i.i in (
      search rules,
      search rules,
      onward-four at.args.n _ _ _ (search rules) begun.starts-begins.ensures
          begun.ones-m.ensures
          room.some room.twice room.fits _ _ _ _ i (omega (
            arith,
            room.all (begun.grouped-end.ensures.1
                (omega (arith, c.loop-i-test.true))),
          ))
          c.loop-i.invariant.0 (search rules)
          (leader-at t i (search rules)) (leader-at t (i + 1) (search rules)) (leader-at t (i + 2) (search rules)) (leader-at t (i + 3) (search rules))
          refl c.four-q.ensures c.doubled-r.ensures c.loop-i.invariant.2,
    )

pub loop-i-2-init : goal.loop-i-2-init
loop-i-2-init c = (search rules, search rules, onward-none _ _ _ _)

pub pair-q-requires : goal.pair-q-requires
pair-q-requires c =
    let t = c.table-ls.ensures in
    let i = c.loop-i-2.i in
    (refl, refl, (leader-at t i (search rules)).1, (leader-at t (i + 1) (search rules)).1)

pub overflow_add-i-in-loop-i-2-4 : goal.overflow_add-i-in-loop-i-2-4
overflow_add-i-in-loop-i-2-4 c = omega (
  arith,
  c.loop-i-2-test.true,
  c.requires.3,
)

pub loop-i-2-preserved : goal.loop-i-2-preserved
loop-i-2-preserved c =
    let begun = c in
    let t = begun.table-ls.ensures in
    let at = begun in
    let room = begun.room-most.ensures in
    let i = c.loop-i-2.i in (
      search rules,
      search rules,
      onward-pair at.args.n _ _ _ (search rules) begun.starts-begins.ensures
          begun.ones-m.ensures
          room.some room.twice room.fits _ _ i c.loop-i-2.invariant.0 (search rules)
          (leader-at t i (search rules)) (leader-at t (i + 1) (search rules))
          c.pair-q.ensures c.doubled-r-in-loop-i-2.ensures c.loop-i-2.invariant.2,
    )

pub turn-requires : goal.turn-requires
turn-requires c =
    let t = c.table-ls.ensures in
    let i = c.loop-i-2.i in
    (refl, refl, (leader-at t i (search rules)).1)

pub returns-then-i-k : goal.returns-then-i-k
returns-then-i-k c =
    let begun = c in
    let t = begun.table-ls.ensures in
    let at = begun in
    let room = begun.room-most.ensures in
    let starts = begun.starts-begins.ensures in
    let i = c.loop-i-2.i in
    let first = kept-first at.args.n _ (search rules) starts (7 * begun.room-most.result) _ _ (leader-at t 0 (omega arith)).0
    (leader-at t 0 (omega arith)).1 begun.ones-m.ensures room.twice room.fits in
    let held = c.loop-i-2.invariant.2.from at.args.p
    (c.loop-i.invariant.2.from at.args.p
    (rw (begun.substituted-r.ensures, begun.doubled.ensures) first)) in
    let last = kept-turn at.args.n _ (search rules) starts begun.room-most.result _ i (omega (arith, room.some)) room.twice
    room.fits c.loop-i-2.invariant.0 (search rules) (leader-at t i (search rules)).0
    (leader-at t i (search rules)).1 held in
    (kept-all (i + 1) at.args.k (rw (← c.turn.ensures) at last) (search rules) (search rules))

pub returns : goal.returns
returns c =
    let begun = c in
    let t = begun.table-ls.ensures in
    let at = begun in
    let room = begun.room-most.ensures in
    let starts = begun.starts-begins.ensures in
    let i = c.loop-i-2.i in
    let first = kept-first at.args.n _ (search rules) starts (7 * begun.room-most.result) _ _ (leader-at t 0 (omega arith)).0
    (leader-at t 0 (omega arith)).1 begun.ones-m.ensures room.twice room.fits in
    let held = c.loop-i-2.invariant.2.from at.args.p (c.loop-i.invariant.2.from at.args.p
    (rw (begun.substituted-r.ensures, begun.doubled.ensures) first)) in
    (kept-all i at.args.k held (search rules) (search rules))
