-- The inverse undoes the permutation and the permutation the inverse, at every state size from 8 bytes on and for all leaders.
-- Assumes nothing.
use Rattle.std.specs.Prelude.{◌≡◌, refl, List, [], ◌∷◌, ℕ, ◌≤◌, length, take}
use Rattle.base_lists.specs.Below.{Below}
use Rattle.gage_cells.specs.Cells.{table, substitute, restore}
use Rattle.gage_cells.specs.Quasigroup.{table-closed}
use Rattle.gage_cells.specs.States.{length-substitute, length-restore, substitute-below, restore-below}
use Rattle.gage_cells.proofs.Inverse.{restore-substitute, substitute-restore}
use Rattle.gage_shuffle.specs.Sizes.{SMALLEST}
use Rattle.gage_shuffle.specs.Shuffling.{shuffle}
use Rattle.gage_shuffle.specs.States.{length-shuffle, shuffle-below}
use Rattle.gage_shuffle.specs.Inverse.{unshuffle-shuffle, shuffle-unshuffle}
use Rattle.gage_leaders.proofs.Rule.{leaders-below}
use Rattle.gage_spec.specs.Permutation.{leaders, turns, permute_by, permute, unturns, unpermute_by, unpermute}
use Rattle.gage_spec.specs.States.{length-unturns, unturns-below}

-- the turns of the permutation
unturns-turns : (ls s : List ℕ) → SMALLEST ≤ length s → Below 4 ls → Below 256 s → unturns ls (turns ls s) ≡ s
unfolding unturns turns
unturns-turns [] s w h b = refl
unturns-turns (l ∷ ls) s w h b =
    rw (
      unturns-turns ls (substitute table l (shuffle s)) (rw (length-substitute, length-shuffle) w) h.1
          (substitute-below table table-closed l (shuffle s)),
      restore-substitute l (shuffle s) h.0 (shuffle-below s),
    )
    (unshuffle-shuffle s w b)

turns-unturns : (ls s : List ℕ) → SMALLEST ≤ length s → Below 4 ls → Below 256 s → turns ls (unturns ls s) ≡ s
unfolding unturns turns
turns-unturns [] s w h b = refl
turns-unturns (l ∷ ls) s w h b =
    let u = unturns ls s in
    rw (
      shuffle-unshuffle (restore table l u) (rw (length-restore, length-unturns) w) (restore-below table table-closed l u),
      substitute-restore l u h.0 (unturns-below ls s b),
    )
    (turns-unturns ls s w h.1 b)

-- with any leaders
pub unpermute-permute : (ls s : List ℕ) → SMALLEST ≤ length s → Below 4 ls → Below 256 s → unpermute_by ls (permute_by ls s) ≡ s
unfolding unpermute_by permute_by
unpermute-permute [] s w h b = refl
unpermute-permute (l ∷ ls) s w h b =
    rw (unturns-turns ls (substitute table l s) (rw length-substitute w) h.1 (substitute-below table table-closed l s))
    (restore-substitute l s h.0 b)

pub permute-unpermute : (ls s : List ℕ) → SMALLEST ≤ length s → Below 4 ls → Below 256 s → permute_by ls (unpermute_by ls s) ≡ s
unfolding unpermute_by permute_by
permute-unpermute [] s w h b = refl
permute-unpermute (l ∷ ls) s w h b =
    rw (substitute-restore l (unturns ls s) h.0 (unturns-below ls s b)) (turns-unturns ls s w h.1 b)

-- with k rounds
pub rounds-undone : (k : ℕ) (s : List ℕ) → SMALLEST ≤ length s → Below 256 s → unpermute k (permute k s) ≡ s
unfolding unpermute permute
rounds-undone k s w b = unpermute-permute (take k leaders) s w (leaders-below k) b

pub rounds-redone : (k : ℕ) (s : List ℕ) → SMALLEST ≤ length s → Below 256 s → permute k (unpermute k s) ≡ s
unfolding unpermute permute
rounds-redone k s w b = permute-unpermute (take k leaders) s w (leaders-below k) b
