-- The sponge of document 000, Table 1.3, over a message that comes in parts: whole blocks taken into a state, and what ends the digest
-- of it; and what the calls for a part answer. Assumes nothing: these are definitions.
use Rattle.std.specs.Prelude.{ℕ, zero, suc, ◌*◌, ◌/◌, cond, List, length, take, drop, replicate}
use Rattle.base_lists.specs.Buffers.{copied}
use Rattle.gage_spec.specs.Permutation.{LARGEST, ROUNDS, permute}
use Rattle.gage_sponge.specs.Padding.{last_block}
use Rattle.gage_sponge.specs.Absorbing.{xored, Run, from, changed, called}
use Rattle.digest_spec.specs.Instances.{DIGEST, unknown, size_of, rate_of, outputs_of}
use Rattle.digest_spec.specs.Hashing.{Squeezed, squeezed, digest_of}
use Rattle.digest_sponge.specs.declared.Shape.{Shape}

-- absorbing goes on from a run: after k whole blocks of x
unfoldable pub taken : ℕ → List ℕ → Run → ℕ → Run
taken R x r zero = r
taken R x r (suc k) = called (permute ROUNDS) (changed (xored (take R (drop (k * R) x))) (taken R x r k))

-- absorbing ends with what is left of the message, padded; then k outputs
unfoldable pub closed : ℕ → ℕ → List ℕ → Run → Squeezed
closed R k rest r = squeezed R (called (permute ROUNDS) (changed (xored (take R (last_block rest))) r)) k

-- x in n bytes, zeros behind it
abbrev pub within : ℕ → List ℕ → List ℕ
within n x = copied x (replicate n 0)

-- what the sponge of instance i works with; nothing for an unknown one
unfoldable pub sponge_of : ℕ → Shape
sponge_of i = cond (unknown i) (record { size = 0; rate = 0; outputs = 0 })
    (record { size = size_of i; rate = rate_of i; outputs = outputs_of i })

-- a state of instance i after the whole blocks of x, zero past its size; of an unknown instance it stays
unfoldable pub taken_in : ℕ → List ℕ → List ℕ → List ℕ
taken_in i s x = cond (unknown i) s (within LARGEST (taken (rate_of i) x (from (take (size_of i) s)) (length x / rate_of i)).state)

-- the digest by instance i of a message whose whole blocks made the state s, from what is left of it; zeros for an unknown instance
unfoldable pub closed_by : ℕ → List ℕ → List ℕ → List ℕ
closed_by i s rest =
    cond (unknown i) (replicate DIGEST 0) (closed (rate_of i) (outputs_of i) rest (from (take (size_of i) s))).hash

-- the digest by instance i of a whole message; zeros for an unknown instance
unfoldable pub hash_of : ℕ → List ℕ → List ℕ
hash_of i m = cond (unknown i) (replicate DIGEST 0) (digest_of i m)
