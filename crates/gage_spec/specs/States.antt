-- A state stays a state: the permutation and its inverse keep its length, and the permutation gives bytes, at every size and for all leaders.
-- Assumes nothing.
use Rattle.std.specs.Prelude.{◌≡◌, refl, List, [], ◌∷◌, ℕ, length, take}
use Rattle.std.proofs.Common.{◌∙◌}
use Rattle.base_lists.specs.Below.{Below}
use Rattle.gage_cells.specs.Cells.{table, substitute, restore}
use Rattle.gage_cells.specs.Quasigroup.{table-closed}
use Rattle.gage_cells.specs.States.{length-substitute, length-restore, substitute-below}
use Rattle.gage_shuffle.specs.Shuffling.{shuffle}
use Rattle.gage_shuffle.specs.States.{length-shuffle, length-unshuffle, unshuffle-below}
use Rattle.gage_spec.specs.Permutation.{leaders, turns, permute_by, permute, unturns, unpermute_by, unpermute}

length-turns : (ls s : List ℕ) → length (turns ls s) ≡ length s
unfolding turns
length-turns [] s = refl
length-turns (l ∷ ls) s =
    length-turns ls (substitute table l (shuffle s)) ∙ length-substitute table l (shuffle s) ∙ length-shuffle s

pub length-unturns : (ls s : List ℕ) → length (unturns ls s) ≡ length s
unfolding unturns
length-unturns [] s = refl
length-unturns (l ∷ ls) s =
    length-unshuffle (restore table l (unturns ls s)) ∙ length-restore table l (unturns ls s) ∙ length-unturns ls s

turns-below : (ls s : List ℕ) → Below 256 s → Below 256 (turns ls s)
unfolding turns
turns-below [] s b = b
turns-below (l ∷ ls) s b = turns-below ls (substitute table l (shuffle s)) (substitute-below table table-closed l (shuffle s))

pub unturns-below : (ls s : List ℕ) → Below 256 s → Below 256 (unturns ls s)
unfolding unturns
unturns-below [] s b = b
unturns-below (l ∷ ls) s b = unshuffle-below (restore table l (unturns ls s))

pub length-permute_by : (ls s : List ℕ) → length (permute_by ls s) ≡ length s
unfolding permute_by
length-permute_by [] s = refl
length-permute_by (l ∷ ls) s = length-turns ls (substitute table l s) ∙ length-substitute table l s

pub length-unpermute_by : (ls s : List ℕ) → length (unpermute_by ls s) ≡ length s
unfolding unpermute_by
length-unpermute_by [] s = refl
length-unpermute_by (l ∷ ls) s = length-restore table l (unturns ls s) ∙ length-unturns ls s

pub permute_by-below : (ls s : List ℕ) → Below 256 s → Below 256 (permute_by ls s)
unfolding permute_by
permute_by-below [] s b = b
permute_by-below (l ∷ ls) s b = turns-below ls (substitute table l s) (substitute-below table table-closed l s)

pub length-permute : (k : ℕ) (s : List ℕ) → length (permute k s) ≡ length s
unfolding permute
length-permute k s = length-permute_by (take k leaders) s

pub length-unpermute : (k : ℕ) (s : List ℕ) → length (unpermute k s) ≡ length s
unfolding unpermute
length-unpermute k s = length-unpermute_by (take k leaders) s

pub permute-below : (k : ℕ) (s : List ℕ) → Below 256 s → Below 256 (permute k s)
unfolding permute
permute-below k s b = permute_by-below (take k leaders) s b
