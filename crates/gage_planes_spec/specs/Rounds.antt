-- Rounds on a state in planes: what the calls work out, and what is promised of each form, whatever state the planes hold. Assumes nothing: these are
-- definitions.
use Rattle.std.specs.Prelude.{◌≡◌, List, ℕ, ◌+◌, ◌*◌, ◌≤◌, length}
use Rattle.base_lists.specs.Below.{Below}
use Rattle.gage_spec.specs.Permutation.{permute, judged, after}
use Rattle.gage_planes_spec.specs.declared.Planes.{Planes}
use Rattle.gage_planes_spec.specs.declared.State.{State}
use Rattle.gage_planes_spec.specs.declared.Windows.{Windows}
use Rattle.gage_planes_spec.specs.Columns.{Holds}
use Rattle.gage_planes_spec.specs.Windows.{HoldBoth}
use Rattle.gage_planes_spec.specs.Told.{told, state_of}

-- k rounds of a state of n bytes: the planes of the permuted state; of another size or count the state stays as it was
unfoldable pub permuted : ℕ → ℕ → State → State
permuted n k t = after (judged n k) (state_of (permute k (told n t))) t

-- the sizes in bytes that leave room for turns in a plane of one number: four where twice the state has the digits for them, and two where a number has
abbrev pub LEAST : ℕ
LEAST = 28

abbrev pub MOST : ℕ
MOST = 50

-- r turns have room
pub record Room (n r : ℕ) : Type 0 where
  pub some : 2 ≤ r
  pub twice : 7 * r ≤ n
  pub fits : n + 7 * r ≤ 64
  pub all : n ≤ 36 → r ≡ 4

-- whatever state of n bytes p holds in v digits, r holds f of it in w
pub record Kept (f : List ℕ → List ℕ) (n v w : ℕ) (p r : Planes) : Type 0 where
  pub each : (s : List ℕ) → length s ≡ n → Below 256 s → Holds 0 v p s → Holds 0 w r (f s)

-- k rounds
abbrev pub Permuted : ℕ → ℕ → Planes → Planes → Type 0
Permuted n k p r = Kept (permute k) n n n p r

-- the same of two windows, h bytes apart
pub record PermutedBoth (h k : ℕ) (w r : Windows) : Type 0 where
  pub each : (s : List ℕ) → length s ≡ h + h → Below 256 s → HoldBoth h h w s → HoldBoth h h r (permute k s)
