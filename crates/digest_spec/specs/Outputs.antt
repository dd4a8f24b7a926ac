-- A digest has 32 bytes; and what is given out of a state depends on no call made before. Assumes nothing.
use Rattle.std.specs.Prelude.{◌≡◌, refl, false, List, ℕ, zero, suc, ◌*◌, ◌≤◌, length, take}
use Rattle.std.proofs.Common.{sym, ap, ◌∙◌, suc-mul, zero-mul, arith, length-append, length-take-le}
use Rattle.std.proofs.lemmas.List.{length-replicate}
use Rattle.base_lists.specs.Below.{Below, below-append, below-take, below-replicate}
use Rattle.gage_spec.specs.Permutation.{ROUNDS, permute}
use Rattle.gage_spec.specs.Tables.{permitted-size}
use Rattle.gage_spec.specs.States.{length-permute, permute-below}
use Rattle.gage_sponge.specs.Padding.{LARGEST-RATE, block, block_count}
use Rattle.gage_sponge.specs.Absorbing.{Run, xored}
use Rattle.gage_sponge.proofs.Blocks.{block-below}
use Rattle.gage_sponge.specs.Xor.{length-xored, xored-below}
use Rattle.digest_spec.specs.Instances.{DIGEST, unknown, size_of, rate_of, outputs_of}
use Rattle.digest_spec.specs.Shapes.{known-whole}
use Rattle.digest_spec.specs.Hashing.{absorbed, squeezed, sponged, digest_of}

-- a state stays a state: its length, and bytes
pub length-absorbed : (n R : ℕ) (m : List ℕ) (i : ℕ) → length (absorbed n R m i).state ≡ n
unfolding absorbed
length-absorbed n R m zero = length-replicate n 0
length-absorbed n R m (suc i) =
    length-permute ROUNDS (xored (block R m i) (absorbed n R m i).state)
    ∙ length-xored (block R m i) (absorbed n R m i).state ∙ length-absorbed n R m i

pub absorbed-below : (n R : ℕ) (m : List ℕ) (i : ℕ) → Below 256 m → Below 256 (absorbed n R m i).state
unfolding absorbed
absorbed-below n R m zero b = below-replicate 256 n 0 (omega arith)
absorbed-below n R m (suc i) b =
    permute-below ROUNDS (xored (block R m i) (absorbed n R m i).state)
    (xored-below (block R m i) (absorbed n R m i).state (block-below R m i b) (absorbed-below n R m i b))

pub length-squeezing : (R : ℕ) (r : Run) (k : ℕ) → length (squeezed R r k).run.state ≡ length r.state
unfolding squeezed
length-squeezing R r zero = refl
length-squeezing R r (suc k) = length-permute ROUNDS (squeezed R r k).run.state ∙ length-squeezing R r k

squeezing-below : (R : ℕ) (r : Run) (k : ℕ) → Below 256 r.state → Below 256 (squeezed R r k).run.state
unfolding squeezed
squeezing-below R r zero b = b
squeezing-below R r (suc k) b = permute-below ROUNDS (squeezed R r k).run.state (squeezing-below R r k b)

-- R bytes an output
pub length-squeezed : (R : ℕ) (r : Run) (k : ℕ) → R ≤ length r.state → length (squeezed R r k).hash ≡ k * R
unfolding squeezed
length-squeezed R r zero h = sym (zero-mul R)
length-squeezed R r (suc k) h =
    let st = (squeezed R r k).run.state in
    let l : length (permute ROUNDS st) ≡ length r.state = length-permute ROUNDS st ∙ length-squeezing R r k in
    length-append (squeezed R r k).hash (take R (permute ROUNDS st))
    ∙ rw (suc-mul k R) (omega (arith, length-squeezed R r k h, length-take-le R (permute ROUNDS st) (omega arith)))

pub squeezed-below : (R : ℕ) (r : Run) (k : ℕ) → Below 256 r.state → Below 256 (squeezed R r k).hash
unfolding squeezed
squeezed-below R r zero b = tt
squeezed-below R r (suc k) b =
    let st = (squeezed R r k).run.state in
    below-append 256 (squeezed R r k).hash (take R (permute ROUNDS st)) (squeezed-below R r k b)
    (below-take 256 R (permute ROUNDS st) (permute-below ROUNDS st (squeezing-below R r k b)))

-- what is given out depends on the state alone
squeezing-state : (R : ℕ) (r q : Run) (k : ℕ) → r.state ≡ q.state → (squeezed R r k).run.state ≡ (squeezed R q k).run.state
unfolding squeezed
squeezing-state R r q zero e = e
squeezing-state R r q (suc k) e = ap (permute ROUNDS) (squeezing-state R r q k e)

pub squeezed-state : (R : ℕ) (r q : Run) (k : ℕ) → r.state ≡ q.state → (squeezed R r k).hash ≡ (squeezed R q k).hash
unfolding squeezed
squeezed-state R r q zero e = refl
squeezed-state R r q (suc k) e = rw (squeezed-state R r q k e, squeezing-state R r q k e)

-- the digest of a known instance has 32 bytes
pub length-digest : (i : ℕ) (m : List ℕ) → unknown i ≡ false → length (digest_of i m) ≡ DIGEST
unfolding digest_of sponged
length-digest i m e =
    let w = known-whole i e in
    let s = permitted-size (size_of i) w.fits.permits in
    let least : rate_of i ≤ LARGEST-RATE = w.fits.least in
    let r = absorbed (size_of i) (rate_of i) m (block_count (rate_of i) m) in
    let l : length r.state ≡ size_of i = length-absorbed (size_of i) (rate_of i) m (block_count (rate_of i) m) in
    length-squeezed (rate_of i) r (outputs_of i) (omega arith) ∙ w.makes

-- and they are bytes, where the message's are
pub digest-below : (i : ℕ) (m : List ℕ) → Below 256 m → Below 256 (digest_of i m)
unfolding digest_of sponged
digest-below i m b =
    let r = absorbed (size_of i) (rate_of i) m (block_count (rate_of i) m) in
    squeezed-below (rate_of i) r (outputs_of i) (absorbed-below (size_of i) (rate_of i) m (block_count (rate_of i) m) b)
