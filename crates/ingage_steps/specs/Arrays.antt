-- What each step leaves in the array that holds a state, or a block, of any size, the bytes behind the size too; and in a state in planes. That the first
-- bytes are those of the crate cipher's definitions is First.antt. Assumes nothing: these are definitions.
use Rattle.std.specs.Prelude.{ℕ, ◌-◌, cond, List, ◌++◌, ltb, length, get_or, set, take, drop, replicate}
use Rattle.std.specs.Int.Bits.{bit_xor}
use Rattle.base_lists.specs.Buffers.{copied}
use Rattle.gage_spec.specs.Permutation.{LARGEST, ROUNDS, permute, answered}
use Rattle.gage_sponge.specs.Padding.{last_block}
use Rattle.gage_sponge.specs.Absorbing.{xored}
use Rattle.gage_planes_spec.specs.declared.State.{State}
use Rattle.gage_planes_spec.specs.Told.{mixed}
use Rattle.gage_planes_spec.specs.Rounds.{permuted}
use Rattle.ingage_spec.specs.declared.Instance.{Instance}
use Rattle.ingage_spec.specs.Cipher.{LAST-BLOCK, AFTER-MESSAGE, last_xored}

-- all rounds of the permutation on the first n bytes, where it permits that many
unfoldable pub whole_of : ℕ → List ℕ → List ℕ
whole_of n s = (answered permute s n ROUNDS).state

-- v XORed into the last of the first n bytes, where there is one
unfoldable pub last_of : ℕ → ℕ → List ℕ → List ℕ
last_of v n s = cond (ltb n 1) s (set s (n - 1) (bit_xor v (get_or s (n - 1) 0)))

-- as much of b as there is room for, put at a place
unfoldable pub put_at : ℕ → List ℕ → List ℕ → List ℕ
put_at at b s = take at s ++ copied b (drop at s)

-- 'Initialize state S'
module _ (z : Instance) where
  abbrev pub key_of : List ℕ → List ℕ
  key_of key = put_at z.nonce key (replicate LARGEST 0)

  unfoldable pub start_of : List ℕ → List ℕ → List ℕ
  start_of key nonce = xored (key_of key) (whole_of z.state (put_at 0 nonce (key_of key)))

-- the block of R bytes of a piece p of the associated data: the last, which alone is shorter than a block, has its last bit set
unfoldable pub marked_block : ℕ → List ℕ → List ℕ
marked_block R p = cond (ltb (length p) R) (last_xored LAST-BLOCK (take R (last_block p))) (take R (last_block p))

-- the array that holds it
unfoldable pub marked_of : ℕ → List ℕ → List ℕ
marked_of R p = cond (ltb (length p) R) (last_of LAST-BLOCK R (last_block p)) (last_block p)

-- v XORed into the last byte of a state of n bytes in planes
unfoldable pub last_mixed : ℕ → ℕ → State → State
last_mixed v n t = mixed (last_of v n (replicate LARGEST 0)) t

-- the step before 'Finalization', and its step 1
unfoldable pub finish_of : ℕ → State → State
finish_of n t = permuted n ROUNDS (last_mixed AFTER-MESSAGE n t)
