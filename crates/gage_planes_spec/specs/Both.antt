-- Rounds on two windows, one after the other: four turns have room between two drawings. Assumes nothing.
use Rattle.std.specs.Prelude.{◌≡◌, List, ℕ, ◌+◌, ◌-◌, ◌^◌, ◌≤◌, ◌<◌, length, get_or, take}
use Rattle.std.proofs.Common.{◌∙◌, arith}
use Rattle.base_lists.specs.Below.{Below}
use Rattle.gage_spec.specs.Permutation.{MOST-ROUNDS, leaders, permute_by, permute}
use Rattle.gage_spec.specs.States.{length-permute_by}
use Rattle.base_digits.specs.Held.{WORD}
use Rattle.gage_planes_spec.specs.declared.Windows.{Windows}
use Rattle.gage_planes_spec.specs.Planes.{substituted_both, turned_both, drawn_both}
use Rattle.gage_planes_spec.specs.Windows.{HoldBoth}
use Rattle.gage_planes_spec.specs.Rounds.{PermutedBoth}

-- from round i, with all digits held in q, to round j, with all held in r
pub record OnwardBoth (h i : ℕ) (q : Windows) (j : ℕ) (r : Windows) : Type 0 where
  pub from : (s : List ℕ) → length s ≡ h + h → Below 256 s → HoldBoth h WORD q (permute_by (take i leaders) s) → HoldBoth h WORD r (permute_by (take j leaders) s)
