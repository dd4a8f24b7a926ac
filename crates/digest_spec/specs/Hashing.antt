-- GAGE's sponge (document 000, Table 1.3) over the state size n and the rate R in bytes, each call of the permutation counted.
-- Assumes nothing: these are definitions.
use Rattle.std.specs.Prelude.{ℕ, zero, suc, List, [], ◌++◌, take, replicate}
use Rattle.gage_spec.specs.Permutation.{ROUNDS, permute}
use Rattle.gage_sponge.specs.Padding.{block, block_count}
use Rattle.gage_sponge.specs.Absorbing.{xored, Run, from, changed, called}
use Rattle.digest_spec.specs.Instances.{size_of, rate_of, outputs_of}

-- initialization and absorbing: from a state of zeros, after i blocks of the padded message m
unfoldable pub absorbed : ℕ → ℕ → List ℕ → ℕ → Run
absorbed n R m zero = from (replicate n 0)
absorbed n R m (suc i) = called (permute ROUNDS) (changed (xored (block R m i)) (absorbed n R m i))

-- squeezing: a run of the sponge, and what it gave out
pub record Squeezed : Type 0 where
  pub run : Run
  pub hash : List ℕ

-- one output: the permutation, then the first R bytes
abbrev pub output : ℕ → Squeezed → Squeezed
output R q = record {
  run = called (permute ROUNDS) q.run;
  hash = q.hash ++ take R (permute ROUNDS q.run.state);
}

-- after k outputs
unfoldable pub squeezed : ℕ → Run → ℕ → Squeezed
squeezed R r zero = record { run = r; hash = [] }
squeezed R r (suc k) = output R (squeezed R r k)

-- the whole sponge, with k outputs
unfoldable pub sponged : ℕ → ℕ → ℕ → List ℕ → Squeezed
sponged n R k m = squeezed R (absorbed n R m (block_count R m)) k

-- the digest of m by instance i, and the calls of the permutation that it takes
unfoldable pub digest_of : ℕ → List ℕ → List ℕ
digest_of i m = (sponged (size_of i) (rate_of i) (outputs_of i) m).hash

unfoldable pub digest_calls : ℕ → List ℕ → ℕ
digest_calls i m = (sponged (size_of i) (rate_of i) (outputs_of i) m).run.calls
