-- The count of calls of a digest is a number of the machine. Assumes nothing.
use Rattle.std.specs.Prelude.{◌≡◌, false, ℕ, ◌+◌, ◌*◌, ◌/◌, ◌≤◌, ◌<◌}
use Rattle.std.proofs.Common.{div-le_self, mul-le-mul_left, arith}
use Rattle.digest_spec.specs.Instances.{DIGEST, unknown, rate_of, outputs_of}
use Rattle.digest_spec.specs.Shapes.{known-whole}
use Rattle.digest_call.specs.Answers.{LONGEST-MESSAGE}

-- the count is far below the machine's largest number
pub count_fits : (i n : ℕ) → unknown i ≡ false → n ≤ LONGEST-MESSAGE → (0 < rate_of i) × (n / rate_of i + outputs_of i ≤ LONGEST-MESSAGE + DIGEST)
count_fits i n e h =
    let w = known-whole i e in
    let some : 0 < rate_of i = w.fits.some in
    let k : outputs_of i * 1 ≤ outputs_of i * rate_of i = mul-le-mul_left (outputs_of i) some in
    (some, omega (arith, w.makes, div-le_self n (rate_of i)))
