-- Rounds on a state in planes, one after the other. Assumes nothing.
use Rattle.std.specs.Prelude.{◌≡◌, refl, List, [], ◌∷◌, ◌++◌, ℕ, zero, suc, ◌+◌, ◌-◌, ◌*◌, ◌/◌, ◌%◌, ◌^◌, ◌≤◌, ◌<◌, length, get_or, take}
use Rattle.std.proofs.Common.{sym, ap, ◌∙◌, not-suc-le-zero, zero-mul, one-mul, add-one, arith, length-take-le, take-suc}
use Rattle.std.specs.Int.Bits.{bit_xor}
use Rattle.gage_cells.specs.Cells.{table, substitute}
use Rattle.gage_shuffle.specs.Shuffling.{shuffle}
use Rattle.gage_leaders.proofs.Rule.{length-leaders, leader-below}
use Rattle.gage_spec.specs.Permutation.{MOST-ROUNDS, leaders, turns, permute_by, permute}
use Rattle.gage_spec.specs.States.{length-permute_by}
use Rattle.base_digits.specs.Held.{Held, WORD}
use Rattle.gage_planes_spec.specs.declared.Planes.{Planes}
use Rattle.gage_planes_spec.specs.Planes.{substituted, turned, turned_around, doubled, uppers, lowers}
use Rattle.gage_planes_spec.specs.Columns.{holds-fewer, doubled-holds}
use Rattle.gage_planes_spec.specs.Leading.{first, starts-held, one-held}
use Rattle.gage_planes_spec.specs.Rounds.{Kept}

-- from round i, with v digits held in q, to round j, with w held in r: whatever the planes p were at the start
pub record Onward (n v i : ℕ) (q : Planes) (w j : ℕ) (r : Planes) : Type 0 where
  pub from : (p : Planes) → Kept (permute_by (take i leaders)) n n v p q → Kept (permute_by (take j leaders)) n n w p r
