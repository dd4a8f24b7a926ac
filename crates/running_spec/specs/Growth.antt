-- Laws of a record that is fed: two feeds are one, feeding a message from the start gives the record of that message, and finishing that
-- one gives document 01's digest and its count. Assumes nothing.
use Rattle.std.specs.Prelude.{◌≡◌}
use Prim.Native.Nat.{ℕ, ◌≤◌, ◌<◌}
use Rattle.std.proofs.Math.ListN.{length}
use Rattle.gage_spec.specs.Permutation.{LARGEST}
use Rattle.gage_sponge.specs.Padding.{LARGEST-RATE}
use Rattle.digest_spec.specs.Instances.{size_of, rate_of}
use Rattle.running_spec.specs.declared.Record.{Record}

-- the two arrays have their sizes, as those of every record in memory do
pub record Sized (r : Record) : Type 0 where
  pub state : length r.state ≡ LARGEST
  pub block : length r.block ≡ LARGEST-RATE

-- what an instance's sizes make room for
pub record Fitting (i : ℕ) : Type 0 where
  pub some : 0 < rate_of i
  pub least : rate_of i ≤ LARGEST-RATE
  pub room : size_of i ≤ LARGEST
