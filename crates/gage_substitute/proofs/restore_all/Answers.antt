use mathlib.Core.Path.{◌≡◌, sym, subst, ◌∙◌}
use Prim.Native.Nat.{ℕ, ◌/◌, ◌%◌, ◌^◌, ◌<◌}
use lib.Bits.{bit_and, and_mask, mask_lt}
use lib.ListN.{get_or}
use mir.Syntax.{w8}
use mir.Val.{Fits}
use Rattle.gage_cells.specs.Cells.{table, star}
use Rattle.gage_cells.specs.Pair.{product, product_is}
use Rattle.gage_cells.specs.Quasigroup.{table-closed}
use Rattle.gage_substitute.proofs.Joined.{joined, joined_is}
use Rattle.gage_substitute.proofs.Restoring.{back_none, back_more, back-all}
use native.Mathlib.Omega.{arith}
use borrow.Author.Rules.{rules}
use Rattle.gage_substitute.proofs.restore_all.Goals as goal

-- the product of two cells is the table's, and a cell
record Cell (x y r : ℕ) : Type 0 where
  is : r ≡ star table x y
  below : r < 4

cell : (x y : ℕ) {r : ℕ} → x < 4 → y < 4 → r ≡ product x y → Cell x y r
cell x y h g e =
    let p : _ ≡ star table x y = e ∙ product_is x y h g in
    record { is = p; below = subst (λ (z : ℕ). z < 4) (sym p) (table-closed.below x y) }

pub loop-x-init : goal.loop-x-init
loop-x-init c = back_none _ _ c.requires

pub loop-x-preserved : goal.loop-x-preserved
unfolding joined
loop-x-preserved c =
    let b = get_or c.loop-x.s c.loop-x.x-index 0 in
    let f : Fits w8 b = search rules in
    let ec : bit_and (b / 2 ^ 4) 3 ≡ b / 16 % 4 = and_mask (b / 16) 2 in
    let ed : bit_and (b / 2 ^ 2) 3 ≡ b / 4 % 4 = and_mask (b / 4) 2 in
    let ee : bit_and b 3 ≡ b % 4 = and_mask b 2 in
    let p = c.loop-x.p in
    let a = c.star-a in
    let h = c.star-c in
    let d = c.star-d in
    let first = cell p (b / 64) c.loop-x.invariant.cell (omega (arith, f.fits)) a.ensures in
    let second = cell a.result (bit_and (b / 16) 3) first.below (mask_lt (b / 16) 2) h.ensures in
    let third = cell h.result (bit_and (b / 4) 3) second.below (mask_lt (b / 4) 2) d.ensures in
    let fourth = cell d.result (bit_and b 3) third.below (mask_lt b 2) c.star-e.ensures in
    back_more _ _ _ _ _ _ _ _ _ _ c.loop-x.invariant (omega arith)
    first.is (second.is ∙ rw ec) (third.is ∙ rw ed) (fourth.is ∙ rw ee) fourth.below
    (joined_is _ _ _ _ first.below second.below third.below fourth.below)

pub returns : goal.returns
returns c = back-all _ _ _ _ _ c.loop-x.invariant (omega arith)
