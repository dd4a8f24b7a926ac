-- The calls of the permutation that a digest takes, by document 01's formula, from the definition that steps. Assumes nothing.
use Rattle.std.specs.Prelude.{◌≡◌, refl, List, ℕ, zero, suc, ◌+◌, ◌/◌, length}
use Rattle.std.proofs.Common.{ap, ◌∙◌, arith}
use Rattle.gage_sponge.specs.Padding.{block_count}
use Rattle.gage_sponge.specs.Absorbing.{Run}
use Rattle.digest_spec.specs.Instances.{DIGEST-BITS, bit_rate, size_of, rate_of, outputs_of}
use Rattle.digest_spec.specs.Hashing.{absorbed, squeezed, sponged, digest_calls}

-- one call for each block
pub absorbed-calls : (n R : ℕ) (m : List ℕ) (i : ℕ) → (absorbed n R m i).calls ≡ i
unfolding absorbed
absorbed-calls n R m zero = refl
absorbed-calls n R m (suc i) = omega (arith, absorbed-calls n R m i)

-- one call for each output
pub squeezed-calls : (R : ℕ) (r : Run) (k : ℕ) → (squeezed R r k).run.calls ≡ r.calls + k
unfolding squeezed
squeezed-calls R r zero = omega arith
squeezed-calls R r (suc k) = omega (arith, squeezed-calls R r k)

pub sponged-calls : (n R k : ℕ) (m : List ℕ) → (sponged n R k m).run.calls ≡ length m / R + 1 + k
unfolding sponged
sponged-calls n R k m =
    squeezed-calls R (absorbed n R m (block_count R m)) k
    ∙ ap (λ (x : ℕ). x + k) (absorbed-calls n R m (block_count R m))

-- floor(m / R) + 1 + 256 / r
pub digest-calls : (i : ℕ) (m : List ℕ) → digest_calls i m ≡ length m / rate_of i + 1 + DIGEST-BITS / bit_rate i
unfolding digest_calls outputs_of
digest-calls i m = sponged-calls (size_of i) (rate_of i) (DIGEST-BITS / bit_rate i) m
