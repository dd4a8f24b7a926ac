-- In planes and out again: the first n bytes are permuted, and the rest stays; and the leaders that the inverse reads. Assumes nothing.
use Rattle.std.specs.Prelude.{Ok}
use mathlib.Core.Path.{◌≡◌, refl, sym, ap, ◌∙◌}
use mathlib.Core.List.{List, ◌++◌}
use Prim.Native.Nat.{ℕ, ◌≤◌, ◌<◌, min}
use native.Mathlib.Omega.{arith}
use lib.ListN.{length, get_or, take, drop}
use lib.Seq.{length-take-le, get_or-take}
use Rattle.base_lists.specs.Below.{Below, below-take}
use Rattle.base_lists.specs.Buffers.{over}
use Rattle.base_lists.specs.Over.{over-whole}
use Rattle.gage_leaders.proofs.Rule.{leader-below}
use Rattle.gage_spec.specs.Permutation.{MOST-ROUNDS, leaders, permute, judged}
use Rattle.gage_planes_spec.specs.declared.State.{State}
use Rattle.gage_planes_spec.specs.Told.{ROOM, told, state_of}
use Rattle.gage_planes_spec.specs.Rounds.{permuted}
use Rattle.gage_planes_spec.specs.Bytes.{length-told, told-state}
use Rattle.gage_planes_spec.proofs.Permuting.{told-permuted}

-- an entry of a table that is the definition's
module _ {t : List ℕ} (e : t ≡ leaders) where
  pub cell_at : (i : ℕ) → i < MOST-ROUNDS → get_or t i 0 < 4
  cell_at i h = rw e (leader-below i h)

  pub leader-at : (k i : ℕ) → i < k → get_or t i 0 ≡ get_or (take k leaders) i 0
  leader-at k i h = rw e (sym (get_or-take k leaders i 0 h))

-- woven, permuted in planes, and told
pub turned-is : (n k : ℕ) (s w : List ℕ) (t q : State) → judged n k ≡ Ok tt → n ≤ ROOM → n ≤ length s → Below 256 s → t ≡ state_of (take n s)
    → q ≡ permuted n k t → w ≡ over (told (min (length (take n s)) ROOM) q) (take n s)
    → w ++ drop n s ≡ permute k (take n s) ++ drop n s
turned-is n k s w t q is room fits small a b c =
    let long : length (take n s) ≡ n = length-take-le n s fits in
    let m : min n ROOM ≡ n = omega arith in
    let before : told n t ≡ take n s = ap (told n) a ∙ told-state n (take n s) room long (below-take 256 n s small) in
    let after : told n q ≡ permute k (take n s) = ap (told n) b ∙ told-permuted n k t is room ∙ ap (permute k) before in
    let bytes : w ≡ permute k (take n s) =
    c ∙ rw (long, m) (over-whole (told n q) (take n s) (omega (arith, length-told n q))) ∙ after in
    rw bytes refl
