-- Every number that is taken for LARGE is refused as LARGE is: it is no size and no count of rounds. Assumes nothing.
use Rattle.std.specs.Prelude.{◌≡◌, false, ℕ, ◌≤◌}
use Rattle.std.proofs.Common.{arith, le-leb}
use Rattle.std.proofs.lemmas.Bool.{lt-leb}
use Rattle.gage_spec.specs.Permutation.{MOST-ROUNDS, permitted, counted}
use Rattle.gage_spec.specs.Tables.{too_large}
use Rattle.tool_trial.specs.Trial.{LARGE}

pub large-size : (n : ℕ) → LARGE ≤ n → permitted n ≡ false
large-size n h = too_large n (omega (arith, h))

pub large-rounds : (k : ℕ) → LARGE ≤ k → counted k ≡ false
large-rounds k h = rw (le-leb 1 k (omega (arith, h)), lt-leb k MOST-ROUNDS (omega (arith, h)))
