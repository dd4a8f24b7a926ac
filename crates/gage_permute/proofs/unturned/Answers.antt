use Rattle.gage_permute.proofs.Turning.{by-leader, by_width, undone-none, undone-more, undone-all}
use Rattle.gage_permute.proofs.Rounds.{cell_at, leader-at}
use Rattle.gage_cells.specs.States.{length-restore}
use Rattle.gage_shuffle.specs.States.{length-unshuffle}
use Rattle.gage_spec.specs.Permutation.{leaders, unpermute}
use Rattle.gage_leaders.proofs.Rule.{length-leaders}
use Rattle.gage_shuffle.specs.Shuffling.{unshuffle}
use Rattle.gage_cells.specs.Cells.{table, restore}
use lib.Seq.{length-take-le}
use lib.ListN.{length, get_or, take}
use Prim.Native.Nat.{◌-◌}
use mathlib.Core.Path.{◌≡◌}
use native.Mathlib.Omega.{arith}
use borrow.Author.Rules.{rules}
use Rattle.gage_permute.proofs.unturned.Goals as goal

pub loop-i-init : goal.loop-i-init
loop-i-init c =
    let k = c.args.k in
    let l : length (take k leaders) ≡ k = length-take-le k leaders (omega (arith, length-leaders)) in
    (search rules, undone-none _ _ _ _ (search rules) (search rules) l)

pub loop-i-preserved : goal.loop-i-preserved
loop-i-preserved c =
    let before = c in
    let leaders₀ = before.table-leaders in
    let k = before.args.k in
    let i = before.loop-i.i in (
      search rules,
      undone-more (get_or leaders₀.result (i - 1) 0) _ _ before.loop-i.invariant.1 (omega arith) (leader-at leaders₀.ensures k (i - 1) (omega arith))
          (by-leader (restore table) (length-restore table) (get_or leaders₀.result (i - 1) 0) _ _ _ (cell_at leaders₀.ensures (i - 1) (omega arith))
          (search rules) c.restore-b.ensures (search rules))
          (by_width unshuffle length-unshuffle _ _ _ (search rules) (search rules) (search rules) c.unshuffle-a.ensures (search rules)),
    )

pub returns : goal.returns
unfolding unpermute
returns c =
    let leaders₀ = c.table-leaders in
    let k = c.args.k in
    undone-all (get_or leaders₀.result 0 0) _ c.loop-i.invariant.1 (omega arith) (leader-at leaders₀.ensures k 0 (omega arith))
    (by-leader (restore table) (length-restore table) (get_or leaders₀.result 0 0) _ _ _ (cell_at leaders₀.ensures 0 (omega arith)) (search rules)
    c.restore.ensures (search rules))
