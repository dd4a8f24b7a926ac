-- What the code works out of a known instance and of how many bytes were fed: its rate and outputs, and how many bytes the block begun holds.
-- Assumes nothing.
use Rattle.std.specs.Prelude.{◌≡◌, false, ℕ, ◌-◌, ◌%◌, ◌≤◌, ◌<◌}
use Rattle.std.proofs.Common.{sym, mod-lt, arith}
use Rattle.gage_sponge.specs.Padding.{LARGEST-RATE}
use Rattle.digest_spec.specs.Instances.{unknown, rate_of, outputs_of}
use Rattle.digest_spec.specs.Shapes.{known-whole}
use Rattle.digest_sponge.specs.Parts.{sponge_of}
use Rattle.digest_sponge.specs.declared.Shape.{Shape}
use Rattle.running_grow.specs.Growing.{Growing}

module _ (i t : ℕ) (known : unknown i ≡ false) {shape : Shape} (Shape-is : shape ≡ sponge_of i) where
  pub rate-is : shape.rate ≡ rate_of i
  unfolding sponge_of
  rate-is = rw (Shape-is, known)

  pub outputs-is : shape.outputs ≡ outputs_of i
  unfolding sponge_of
  outputs-is = rw (Shape-is, known)

  pub some : 0 < shape.rate
  some = rw rate-is (known-whole i known).fits.some

  pub held-less : t % shape.rate < shape.rate
  held-less = mod-lt t some

  pub held_fits : t % shape.rate ≤ LARGEST-RATE
  held_fits =
      let l : shape.rate ≤ LARGEST-RATE = rw rate-is (known-whole i known).fits.least in
      omega (arith, held-less)

  pub growing : Growing i (t % shape.rate) (shape.rate - t % shape.rate)
  growing = let h = held-less in record { known = known; whole = rw (sym rate-is) (omega arith); lacks = omega arith }
