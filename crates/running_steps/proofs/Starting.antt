-- Feeding nothing gives a record of zeros but for its instance. Assumes nothing.
use mathlib.Core.Path.{◌≡◌}
use mathlib.Core.Bool.{false}
use mathlib.Core.List.{[]}
use Prim.Native.Nat.{ℕ}
use native.Mathlib.Nat.{zero-div, zero-mul}
use lib.ListN.{replicate}
use Rattle.gage_spec.specs.Permutation.{LARGEST}
use Rattle.gage_spec.specs.Tables.{permitted-size}
use Rattle.gage_sponge.specs.Padding.{LARGEST-RATE}
use Rattle.digest_spec.specs.Instances.{unknown, size_of, rate_of}
use Rattle.digest_spec.specs.Hashing.{absorbed}
use Rattle.digest_spec.specs.Shapes.{known-whole}
use Rattle.digest_sponge.specs.Joining.{within-zeros}
use Rattle.running_spec.specs.Running.{written, left_of, running_of}

pub started-empty : (i : ℕ) → unknown i ≡ false
    → running_of i [] ≡ record { total = 0; instance = i; finished = 0; state = replicate LARGEST 0; block = replicate LARGEST-RATE 0 }
unfolding running_of written left_of absorbed
started-empty i known =
    let room = (permitted-size (size_of i) (known-whole i known).fits.permits).1 in
    rw (zero-div (rate_of i), zero-mul (rate_of i), within-zeros (size_of i) LARGEST room)
