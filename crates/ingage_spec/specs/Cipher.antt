-- InGAGE (document 000, section 2.1, Algorithms 5 and 6), over the sizes of an instance. Each algorithm is written as its steps,
-- and each call of the permutation counts. Assumes nothing: these are definitions.
use Rattle.std.specs.Prelude.{ℕ, zero, suc, ◌+◌, ◌-◌, ◌*◌, ◌/◌, Bool, cond, List, [], ◌∷◌, ◌++◌, eqb, length, take, drop, replicate}
use Rattle.base_lists.specs.Buffers.{same}
use Rattle.gage_spec.specs.Permutation.{ROUNDS, permute}
use Rattle.gage_sponge.specs.Padding.{block, block_count}
use Rattle.gage_sponge.specs.Absorbing.{xored, Run, from, changed, called}
use Rattle.ingage_spec.specs.declared.Instance.{Instance}

-- the permutation runs ROUNDS at the start and at the end, and ROUNDS / 2 after each block (r1 and r2)
abbrev pub whole : List ℕ → List ℕ
whole s = permute ROUNDS s

abbrev pub half : List ℕ → List ℕ
half s = permute (ROUNDS / 2) s

-- what is XORed into the last block of the associated data, into the state after it, and into the state after the message
abbrev pub LAST-BLOCK : ℕ
LAST-BLOCK = 0x01

abbrev pub AFTER-ASSOCIATED : ℕ
AFTER-ASSOCIATED = 0x01

abbrev pub AFTER-MESSAGE : ℕ
AFTER-MESSAGE = 0x02

-- s XOR (0* || v): v into the last byte
unfoldable pub last_xored : ℕ → List ℕ → List ℕ
last_xored v s = xored (replicate (length s - 1) 0 ++ (v ∷ [])) s

-- a block b XORed into the state, and the permutation after it
abbrev pub passed : List ℕ → Run → Run
passed b r = called half (changed (xored b) r)

module _ (z : Instance) where
  -- N||K||0*, or 0||K||0* where front is as many zeros as N has bytes
  unfoldable pub keyed : List ℕ → List ℕ → List ℕ
  keyed front key = front ++ (key ++ replicate (z.state - (z.nonce + z.key)) 0)

  -- 'Initialize state S'. Step 3 is printed S <- 0||K||0* and read S <- S XOR (0||K||0*), 0 standing in N's place
  unfoldable pub started : List ℕ → List ℕ → Run
  started key nonce = changed (xored (keyed (replicate z.nonce 0) key)) (called whole (from (keyed nonce key)))

  -- 'Absorb associated data A', step 2: block i of the padded A, the last one with its last bit set
  unfoldable pub associated_block : List ℕ → ℕ → List ℕ
  associated_block A i =
      cond (eqb (i + 1) (block_count z.rate A)) (last_xored LAST-BLOCK (block z.rate A i)) (block z.rate A i)

  -- steps 3 to 6, after i blocks
  unfoldable pub absorbing : Run → List ℕ → ℕ → Run
  absorbing r A zero = r
  absorbing r A (suc i) = passed (associated_block A i) (absorbing r A i)

  -- 'Absorb associated data A'
  unfoldable pub absorbed : Run → List ℕ → Run
  absorbed r A = changed (last_xored AFTER-ASSOCIATED) (absorbing r A (block_count z.rate A))

  -- the run when the message comes
  unfoldable pub begun : List ℕ → List ℕ → List ℕ → Run
  begun key nonce A = absorbed (started key nonce) A

-- a run, and the bytes given out on its way
pub record Flow : Type 0 where
  pub run : Run
  pub text : List ℕ

-- 'Absorb and encrypt the plaintext P', steps 3 to 5: a block b of R bytes
abbrev pub encrypt_block : ℕ → List ℕ → Flow → Flow
encrypt_block R b w = record { run = passed b w.run; text = w.text ++ take R (xored b w.run.state) }

-- after i blocks of the padded P
unfoldable pub encrypting : ℕ → Run → List ℕ → ℕ → Flow
encrypting R r P zero = record { run = r; text = [] }
encrypting R r P (suc i) = encrypt_block R (block R P i) (encrypting R r P i)

-- C_i: a text that is not padded has a last piece shorter than a block, perhaps empty
unfoldable pub piece : ℕ → List ℕ → ℕ → List ℕ
piece R C i = take R (drop (i * R) C)

-- S_r XOR C_i, as many bytes as C_i has
unfoldable pub masked : List ℕ → List ℕ → List ℕ
masked c s = take (length c) (xored c s)

-- 'Process the ciphertext C', steps 3 to 5, so that opening follows the states of sealing: once the text is found up to block i,
-- that block of it is padded and XORed in as in sealing (as printed, the ciphertext would be padded)
abbrev pub decrypt_block : ℕ → ℕ → List ℕ → Run → Flow
decrypt_block R i text r = record { run = passed (block R text i) r; text = text }

-- after i pieces of C
unfoldable pub decrypting : ℕ → Run → List ℕ → ℕ → Flow
decrypting R r C zero = record { run = r; text = [] }
decrypting R r C (suc i) =
    decrypt_block R i ((decrypting R r C i).text ++ masked (piece R C i) (decrypting R r C i).run.state) (decrypting R r C i).run

-- the step before 'Finalization', and its step 1
unfoldable pub finished : Run → Run
finished r = called whole (changed (last_xored AFTER-MESSAGE) r)

-- what an algorithm works out: its text, the seal, and how often the permutation was called
pub record Work : Type 0 where
  pub text : List ℕ
  pub seal : List ℕ
  pub calls : ℕ

module _ (z : Instance) where
  -- 'Finalization', step 2: the first bytes of the capacity part
  unfoldable pub seal_of : List ℕ → List ℕ
  seal_of s = take z.seal (drop z.rate s)

  abbrev pub worked : List ℕ → Run → Work
  worked text r = record { text = text; seal = seal_of r.state; calls = r.calls }

  -- Algorithm 5: the ciphertext, cut to the message's length, and the seal
  unfoldable pub encrypted : List ℕ → List ℕ → List ℕ → List ℕ → Work
  encrypted key nonce A P =
      worked (take (length P) (encrypting z.rate (begun z key nonce A) P (block_count z.rate P)).text)
      (finished (encrypting z.rate (begun z key nonce A) P (block_count z.rate P)).run)

  -- Algorithm 6 before its comparison: the message, and the seal that belongs to it
  unfoldable pub decrypted : List ℕ → List ℕ → List ℕ → List ℕ → Work
  decrypted key nonce A C =
      worked (decrypting z.rate (begun z key nonce A) C (block_count z.rate C)).text
      (finished (decrypting z.rate (begun z key nonce A) C (block_count z.rate C)).run)

-- Algorithm 6, 'Finalization', step 3: T == T', every byte
abbrev pub accepted : List ℕ → List ℕ → Bool
accepted T' T = same T' T
