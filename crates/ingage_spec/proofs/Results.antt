-- What sealing and opening give at every instance: how often they call the permutation (document 01, 'The cipher'), how long their
-- texts and seals are, and that bytes give bytes. Assumes nothing.
use Rattle.std.specs.Prelude.{◌≡◌, Bool, cond, eqb, length, take, drop}
use Rattle.std.proofs.Math.Bool.{true, false}
use mathlib.Core.List.{List, ◌++◌}
use Prim.Native.Nat.{ℕ, zero, suc, ◌+◌, ◌-◌, ◌*◌}
use Rattle.std.proofs.Common.{div-one, length-take, length-drop}
use native.Mathlib.Omega.{arith}
use Rattle.std.proofs.Math.ListN.{replicate}
use Rattle.gage_spec.specs.Permutation.{ROUNDS}
use Rattle.gage_spec.specs.States.{permute-below}
use Rattle.base_lists.specs.Below.{Below, below-append, below-take, below-drop, below-replicate}
use Rattle.gage_sponge.specs.Padding.{block, block_count}
use Rattle.gage_sponge.proofs.Blocks.{block-below}
use Rattle.gage_sponge.specs.Absorbing.{xored, Run}
use Rattle.gage_sponge.specs.Xor.{xored-below}
use Rattle.ingage_spec.specs.declared.Instance.{Instance}
use Rattle.ingage_spec.specs.Instances.{Fitting, first}
use Rattle.ingage_spec.specs.Cipher.{passed, last_xored, LAST-BLOCK, AFTER-ASSOCIATED, AFTER-MESSAGE, keyed, started, associated_block, absorbing, absorbed}
use Rattle.ingage_spec.specs.Cipher.{begun, encrypting, piece, masked, decrypting, finished, seal_of, encrypted, decrypted}
use Rattle.ingage_spec.specs.Masking.{masked_below, last-xored-below}
use Rattle.ingage_spec.specs.Runs.{encrypting-calls, decrypting-calls, begun-calls, length-begun, length-encrypting, length-finished}
use Rattle.ingage_spec.proofs.Flows.{length-ciphertext, opened-follows}
use Rattle.ingage_spec.proofs.RoundTrip.{wide}

module _ (z : Instance) (key nonce A : List ℕ) where
  -- one call at the start, one for each block of the associated data and of the message, one at the end
  pub seal-calls : (P : List ℕ) → (encrypted z key nonce A P).calls ≡ 1 + block_count z.rate A + block_count z.rate P + 1
  unfolding encrypted finished
  seal-calls P = omega (arith, encrypting-calls z.rate (begun z key nonce A) P (block_count z.rate P), begun-calls z key nonce A)

  pub open-calls : (C : List ℕ) → (decrypted z key nonce A C).calls ≡ 1 + block_count z.rate A + block_count z.rate C + 1
  unfolding decrypted finished
  open-calls C = omega (arith, decrypting-calls z.rate (begun z key nonce A) C (block_count z.rate C), begun-calls z key nonce A)

-- at the first instance a + p + 4
module _ (key nonce A : List ℕ) where
  pub seal-calls-first : (P : List ℕ) → (encrypted first key nonce A P).calls ≡ length A + length P + 4
  seal-calls-first P = omega (arith, seal-calls first key nonce A P, div-one (length A), div-one (length P))

  pub open-calls-first : (C : List ℕ) → (decrypted first key nonce A C).calls ≡ length A + length C + 4
  open-calls-first C = omega (arith, open-calls first key nonce A C, div-one (length A), div-one (length C))

module _ (z : Instance) (fits : Fitting z) (key nonce A : List ℕ) (k : length key ≡ z.key) (n : length nonce ≡ z.nonce) where
  -- a ciphertext is as long as its message
  pub length-encrypted : (P : List ℕ) → length (encrypted z key nonce A P).text ≡ length P
  unfolding encrypted
  length-encrypted P = length-ciphertext z.rate fits.moves (begun z key nonce A) (wide z fits key nonce A k n) P

  pub length-decrypted : (C : List ℕ) → length (decrypted z key nonce A C).text ≡ length C
  unfolding decrypted
  length-decrypted C = (opened-follows z.rate fits.moves (begun z key nonce A) (wide z fits key nonce A k n) C).long

  -- a seal has the instance's size
  pub length-seal : (P : List ℕ) → length (encrypted z key nonce A P).seal ≡ z.seal
  unfolding encrypted seal_of
  length-seal P =
      let e = fits.ends in
      let w : Run = (encrypting z.rate (begun z key nonce A) P (block_count z.rate P)).run in
      rw (length-take, length-drop)
      (omega (
        arith,
        length-finished w,
        length-encrypting z.rate (begun z key nonce A) P (block_count z.rate P),
        length-begun z fits.begins key nonce A
            k n,
      ))

-- bytes give bytes
passed-below : (b : List ℕ) (r : Run) → Below 256 b → Below 256 r.state → Below 256 (passed b r).state
passed-below b r h g = permute-below _ (xored b r.state) (xored-below b r.state h g)

module _ (z : Instance) (key nonce A : List ℕ) (k : Below 256 key) (n : Below 256 nonce) (a : Below 256 A) where
  keyed-below : (front : List ℕ) → Below 256 front → Below 256 (keyed z front key)
  unfolding keyed
  keyed-below front f =
      below-append 256 front (key ++ replicate (z.state - (z.nonce + z.key)) 0) f
      (below-append 256 key (replicate (z.state - (z.nonce + z.key)) 0) k (below-replicate 256 (z.state - (z.nonce + z.key)) 0 (omega arith)))

  started_below : Below 256 (started z key nonce).state
  unfolding started
  started_below =
      xored-below (keyed z (replicate z.nonce 0) key) _ (keyed-below (replicate z.nonce 0) (below-replicate 256 z.nonce 0 (omega arith)))
      (permute-below ROUNDS (keyed z nonce key) (keyed-below nonce n))

  associated-below : (i : ℕ) → Below 256 (associated_block z A i)
  unfolding associated_block
  associated-below i =
      either (eqb (i + 1) (block_count z.rate A)) _ _ (last-xored-below LAST-BLOCK (block z.rate A i) (omega arith) (block-below z.rate A i a))
      (block-below z.rate A i a)
    where
      either : (t : Bool) (x y : List ℕ) → Below 256 x → Below 256 y → Below 256 (cond t x y)
      either true x y h g = h
      either false x y h g = g

  absorbing-below : (i : ℕ) → Below 256 (absorbing z (started z key nonce) A i).state
  unfolding absorbing
  absorbing-below zero = started_below
  absorbing-below (suc i) = passed-below (associated_block z A i) (absorbing z (started z key nonce) A i) (associated-below i) (absorbing-below i)

  pub begun-below : Below 256 (begun z key nonce A).state
  unfolding begun absorbed
  begun-below =
      last-xored-below AFTER-ASSOCIATED (absorbing z (started z key nonce) A (block_count z.rate A)).state (omega arith)
      (absorbing-below (block_count z.rate A))

  sealing-below : (P : List ℕ) → Below 256 P → (i : ℕ) → Below 256 (encrypting z.rate (begun z key nonce A) P i).run.state
      × Below 256 (encrypting z.rate (begun z key nonce A) P i).text
  unfolding encrypting
  sealing-below P p zero = (begun-below, tt)
  sealing-below P p (suc i) =
      let R : ℕ = z.rate in
      let w = encrypting R (begun z key nonce A) P i in
      let before = sealing-below P p i in
      let b = block-below R P i p in (
        passed-below (block R P i) w.run b before.0,
        below-append 256 w.text (take R (xored (block R P i) w.run.state)) before.1
            (below-take 256 R (xored (block R P i) w.run.state) (xored-below (block R P i) w.run.state b before.0)),
      )

  -- the seal and the ciphertext of bytes are bytes
  pub encrypted-below : (P : List ℕ) → Below 256 P → Below 256 (encrypted z key nonce A P).text × Below 256 (encrypted z key nonce A P).seal
  unfolding encrypted seal_of finished
  encrypted-below P p =
      let R : ℕ = z.rate in
      let w = encrypting R (begun z key nonce A) P (block_count R P) in
      let b = sealing-below P p (block_count R P) in (
        below-take 256 (length P) w.text b.1,
        below-take 256 z.seal _ (below-drop 256 z.rate _ (permute-below ROUNDS (last_xored AFTER-MESSAGE w.run.state)
            (last-xored-below AFTER-MESSAGE w.run.state (omega arith) b.0))),
      )

  opening-below : (C : List ℕ) → Below 256 C → (i : ℕ) → Below 256 (decrypting z.rate (begun z key nonce A) C i).run.state
      × Below 256 (decrypting z.rate (begun z key nonce A) C i).text
  unfolding decrypting piece
  opening-below C c zero = (begun-below, tt)
  opening-below C c (suc i) =
      let R : ℕ = z.rate in
      let w = decrypting R (begun z key nonce A) C i in
      let before = opening-below C c i in
      let t : Below 256 (w.text ++ masked (piece R C i) w.run.state) =
      below-append 256 w.text (masked (piece R C i) w.run.state) before.1
      (masked_below (piece R C i) w.run.state (below-take 256 R (drop (i * R) C) (below-drop 256 (i * R) C c)) before.0) in (
        passed-below (block R (w.text ++ masked (piece R C i) w.run.state) i) w.run
            (block-below R (w.text ++ masked (piece R C i) w.run.state) i t) before.0,
        t,
      )

  pub decrypted-below : (C : List ℕ) → Below 256 C → Below 256 (decrypted z key nonce A C).text
  unfolding decrypted
  decrypted-below C c = (opening-below C c (block_count z.rate C)).1
