-- Laws of the cipher's runs, over every instance: a state keeps its length, the calls are one for each block, what is worked out
-- depends on the state a run starts in and not on its count, and bytes stay bytes. Assumes nothing.
use Rattle.std.specs.Prelude.{◌≡◌, List, length, replicate}
use Rattle.std.proofs.Math.Path.{refl}
use Rattle.std.proofs.Common.{◌∙◌}
use Prim.Native.Nat.{ℕ, zero, suc, ◌+◌, ◌≤◌}
use native.Mathlib.Omega.{arith}
use Rattle.std.proofs.Math.ListN.{length-append}
use Rattle.std.proofs.lemmas.List.{length-replicate}
use Rattle.gage_spec.specs.Permutation.{ROUNDS, permute}
use Rattle.gage_spec.specs.States.{length-permute}
use Rattle.gage_sponge.specs.Padding.{block, block_count}
use Rattle.gage_sponge.specs.Absorbing.{xored, Run, from}
use Rattle.gage_sponge.specs.Xor.{length-xored}
use Rattle.ingage_spec.specs.Cipher.{passed, keyed, started, associated_block, absorbing, absorbed, begun}
use Rattle.ingage_spec.specs.Cipher.{encrypting, decrypting, finished, last_xored, AFTER-ASSOCIATED, AFTER-MESSAGE}
use Rattle.ingage_spec.specs.Masking.{length-last-xored}
use Rattle.ingage_spec.specs.declared.Instance.{Instance}

-- a state keeps its length
length-passed : (b : List ℕ) (r : Run) → length (passed b r).state ≡ length r.state
length-passed b r = length-permute _ (xored b r.state) ∙ length-xored b r.state

pub length-encrypting : (R : ℕ) (r : Run) (P : List ℕ) (i : ℕ) → length (encrypting R r P i).run.state ≡ length r.state
unfolding encrypting
length-encrypting R r P zero = refl
length-encrypting R r P (suc i) = length-passed (block R P i) (encrypting R r P i).run ∙ length-encrypting R r P i

pub length-decrypting : (R : ℕ) (r : Run) (C : List ℕ) (i : ℕ) → length (decrypting R r C i).run.state ≡ length r.state
unfolding decrypting
length-decrypting R r C zero = refl
length-decrypting R r C (suc i) =
    length-passed (block R (decrypting R r C (suc i)).text i) (decrypting R r C i).run ∙ length-decrypting R r C i

-- each block is one call
pub encrypting-calls : (R : ℕ) (r : Run) (P : List ℕ) (i : ℕ) → (encrypting R r P i).run.calls ≡ r.calls + i
unfolding encrypting
encrypting-calls R r P zero = omega arith
encrypting-calls R r P (suc i) = omega (arith, encrypting-calls R r P i)

pub decrypting-calls : (R : ℕ) (r : Run) (C : List ℕ) (i : ℕ) → (decrypting R r C i).run.calls ≡ r.calls + i
unfolding decrypting
decrypting-calls R r C zero = omega arith
decrypting-calls R r C (suc i) = omega (arith, decrypting-calls R r C i)

module _ (z : Instance) where
  pub length-absorbing : (r : Run) (A : List ℕ) (i : ℕ) → length (absorbing z r A i).state ≡ length r.state
  unfolding absorbing
  length-absorbing r A zero = refl
  length-absorbing r A (suc i) = length-passed (associated_block z A i) (absorbing z r A i) ∙ length-absorbing r A i

  pub length-absorbed : (r : Run) (A : List ℕ) → length (absorbed z r A).state ≡ length r.state
  unfolding absorbed
  length-absorbed r A =
      length-last-xored AFTER-ASSOCIATED (absorbing z r A (block_count z.rate A)).state ∙ length-absorbing r A (block_count z.rate A)

  absorbing-calls : (r : Run) (A : List ℕ) (i : ℕ) → (absorbing z r A i).calls ≡ r.calls + i
  unfolding absorbing
  absorbing-calls r A zero = omega arith
  absorbing-calls r A (suc i) = omega (arith, absorbing-calls r A i)

  pub begun-calls : (key nonce A : List ℕ) → (begun z key nonce A).calls ≡ 1 + block_count z.rate A
  unfolding begun absorbed started
  begun-calls key nonce A = absorbing-calls (started z key nonce) A (block_count z.rate A)

  -- with key and nonce of the instance's sizes the state has the instance's size
  module _ (fits : z.nonce + z.key ≤ z.state) where
    pub length-keyed : (front key : List ℕ) → length front ≡ z.nonce → length key ≡ z.key → length (keyed z front key) ≡ z.state
    unfolding keyed
    length-keyed front key f k =
        rw (length-append, length-append, length-replicate) (omega arith)

    pub length-started : (key nonce : List ℕ) → length key ≡ z.key → length nonce ≡ z.nonce → length (started z key nonce).state ≡ z.state
    unfolding started
    length-started key nonce k n =
        length-xored (keyed z (replicate z.nonce 0) key) (permute ROUNDS (keyed z nonce key))
        ∙ length-permute ROUNDS (keyed z nonce key) ∙ length-keyed nonce key n k

    pub length-begun : (key nonce A : List ℕ) → length key ≡ z.key → length nonce ≡ z.nonce → length (begun z key nonce A).state ≡ z.state
    unfolding begun
    length-begun key nonce A k n = length-absorbed (started z key nonce) A ∙ length-started key nonce k n

pub length-finished : (r : Run) → length (finished r).state ≡ length r.state
unfolding finished
length-finished r = length-permute ROUNDS (last_xored AFTER-MESSAGE r.state) ∙ length-last-xored AFTER-MESSAGE r.state

-- what is worked out depends on the state a run starts in, not on its count
pub encrypting-from : (R : ℕ) (r : Run) (P : List ℕ) (i : ℕ)
    → ((encrypting R (from r.state) P i).run.state ≡ (encrypting R r P i).run.state) × ((encrypting R (from r.state) P i).text ≡ (encrypting R r P i).text)
unfolding encrypting
encrypting-from R r P zero = (refl, refl)
encrypting-from R r P (suc i) = let before = encrypting-from R r P i in (rw before.0, rw (before.0, before.1))

pub decrypting-from : (R : ℕ) (r : Run) (C : List ℕ) (i : ℕ)
    → ((decrypting R (from r.state) C i).run.state ≡ (decrypting R r C i).run.state) × ((decrypting R (from r.state) C i).text ≡ (decrypting R r C i).text)
unfolding decrypting
decrypting-from R r C zero = (refl, refl)
decrypting-from R r C (suc i) = let before = decrypting-from R r C i in (rw (before.0, before.1), rw (before.0, before.1))

absorbing-from : (z : Instance) (r : Run) (A : List ℕ) (i : ℕ) → (absorbing z (from r.state) A i).state ≡ (absorbing z r A i).state
unfolding absorbing
absorbing-from z r A zero = refl
absorbing-from z r A (suc i) = rw (absorbing-from z r A i)

pub absorbed-from : (z : Instance) (r : Run) (A : List ℕ) → (absorbed z (from r.state) A).state ≡ (absorbed z r A).state
unfolding absorbed
absorbed-from z r A = rw (absorbing-from z r A (block_count z.rate A))
