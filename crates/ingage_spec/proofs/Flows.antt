-- What sealing gives out and opening finds, piece by piece, at a rate of R bytes and from any state at least as long: a text
-- and its ciphertext have the same length, and piece by piece each is the other masked with the state of sealing.
-- Assumes nothing.
use Rattle.std.specs.Prelude.{◌≡◌}
use Rattle.std.proofs.Math.Path.{refl, sym, ap, ap₂}
use Rattle.std.proofs.Common.{◌∙◌, add-one, take_all, length-take-le}
use mathlib.Core.List.{List, ◌++◌}
use Prim.Native.Nat.{ℕ, zero, suc, ◌+◌, ◌-◌, ◌*◌, ◌≤◌, ◌<◌, min}
use Rattle.std.proofs.Math.Nat.{zero-mul, suc-mul}
use native.Mathlib.Omega.{arith}
use Rattle.std.proofs.Math.ListN.{length, take, length-append, length-take}
use Rattle.std.proofs.Math.Seq.{take-append-add}
use Rattle.gage_sponge.specs.Padding.{block, block_count}
use Rattle.gage_sponge.proofs.Blocks.{block-take, length-block}
use Rattle.gage_sponge.specs.Absorbing.{xored, Run}
use Rattle.gage_sponge.specs.Xor.{length-xored}
use Rattle.ingage_spec.specs.Cipher.{passed, encrypting, piece, masked, decrypting}
use Rattle.ingage_spec.specs.Masking.{masked-take, length-masked, masked-back}
use Rattle.ingage_spec.specs.Pieces.{piece-starts, pieces-reach, take-piece, length-piece, take-both}
use Rattle.ingage_spec.specs.Pieces.{block-piece, same-pieces, Growing, grown, grown-piece}
use Rattle.ingage_spec.specs.Runs.{length-encrypting, length-decrypting}
use Rattle.ingage_spec.specs.Flows.{Follows}

module _ (R : ℕ) (pos : 0 < R) (r : Run) (wide : R ≤ length r.state) (P : List ℕ) where
  -- the state before block i
  abbrev seal_state : ℕ → List ℕ
  seal_state i = (encrypting R r P i).run.state

  -- the ciphertext so far is whole blocks
  pub length-sealed : (i : ℕ) → length (encrypting R r P i).text ≡ i * R
  unfolding encrypting
  length-sealed zero = sym (zero-mul R)
  length-sealed (suc i) =
      let l : R ≤ length (seal_state i) = rw (length-encrypting R r P i) wide in
      length-append (encrypting R r P i).text (take R (xored (block R P i) (seal_state i)))
      ∙ omega (arith, length-sealed i, suc-mul i R, length-take R (xored (block R P i) (seal_state i)), length-xored (block R P i) (seal_state i))

  -- what block i gives out, cut to the message, is its piece masked
  pub sealed-piece : (i : ℕ) → i < block_count R P
      → take (length P) (encrypting R r P (suc i)).text ≡ (encrypting R r P i).text ++ masked (piece R P i) (seal_state i)
  unfolding encrypting
  sealed-piece i h =
      let s = piece-starts R P i h in
      let l = length-sealed i in
      let x : List ℕ = xored (block R P i) (seal_state i) in
      let k : length P ≡ length (encrypting R r P i).text + (length P - i * R) = omega arith in
      ap (λ (n : ℕ). take n ((encrypting R r P i).text ++ take R x)) k
      ∙ take-append-add (encrypting R r P i).text (take R x) (length P - i * R)
      ∙ ap (λ (l : List ℕ). (encrypting R r P i).text ++ l)
      (take-both (length P - i * R) R x
      ∙ ap (λ (n : ℕ). take n x) (sym (length-piece R P i))
      ∙ masked-take (length (piece R P i)) (block R P i) (seal_state i) (omega (arith, length-piece R P i, length-block R P i pos h))
      ∙ ap (λ (l : List ℕ). masked l (seal_state i)) (block-piece R P i h))

  -- before the last block nothing is cut
  uncut : (i : ℕ) → i < block_count R P → take (length P) (encrypting R r P i).text ≡ (encrypting R r P i).text
  uncut i h = take_all (length P) (encrypting R r P i).text (omega (arith, length-sealed i, piece-starts R P i h))

  pub sealing-grows : Growing R (λ i. take (length P) (encrypting R r P i).text) (λ i. masked (piece R P i) (seal_state i)) (block_count R P)
  sealing-grows = record {
    more = λ i h. sealed-piece i h ∙ ap (λ (l : List ℕ). l ++ masked (piece R P i) (seal_state i)) (sym (uncut i h));
    long = λ i h. ap length (uncut i h) ∙ length-sealed i;
    ends = omega (arith, length-take (length P) (encrypting R r P (block_count R P)).text, pieces-reach R P pos);
  }

  -- the ciphertext is as long as the message
  pub length-ciphertext : length (take (length P) (encrypting R r P (block_count R P)).text) ≡ length P
  length-ciphertext =
      length-take-le (length P) (encrypting R r P (block_count R P)).text (omega (arith, length-sealed (block_count R P), pieces-reach R P pos))

module _ (R : ℕ) (pos : 0 < R) (r : Run) (wide : R ≤ length r.state) where
  -- the ciphertext of P does
  pub ciphertext-follows : (P : List ℕ) → Follows R r P (take (length P) (encrypting R r P (block_count R P)).text)
  ciphertext-follows P = record {
    long = sym (length-ciphertext R pos r wide P);
    pieces = grown-piece (sealing-grows R pos r wide P);
  }

  -- and nothing else
  pub follows-ciphertext : (P C : List ℕ) → Follows R r P C → take (length P) (encrypting R r P (block_count R P)).text ≡ C
  follows-ciphertext P C f =
      let E : List ℕ = take (length P) (encrypting R r P (block_count R P)).text in
      let k : ℕ = block_count R P * R in
      let l = f.long in
      let reach = pieces-reach R P pos in
      sym (take_all k E (omega (arith, length-ciphertext R pos r wide P)))
      ∙ same-pieces R E C (block_count R P) (λ i h. (ciphertext-follows P).pieces i h ∙ sym (f.pieces i h))
      ∙ take_all k C (omega arith)

  -- opening it finds P by the states of sealing
  pub follows-opened : (P C : List ℕ) → Follows R r P C → (i : ℕ) → i ≤ block_count R P
      → ((decrypting R r C i).run ≡ (encrypting R r P i).run) × ((decrypting R r C i).text ≡ take (i * R) P)
  unfolding decrypting encrypting
  follows-opened P C f zero h = (refl, rw zero-mul)
  follows-opened P C f (suc i) h =
      let s : List ℕ = (encrypting R r P i).run.state in
      let before = follows-opened P C f i (omega arith) in
      let short : length (piece R P i) ≤ length s = omega (arith, length-piece R P i, length-encrypting R r P i) in
      let found : (decrypting R r C i).text ++ masked (piece R C i) (decrypting R r C i).run.state ≡ take (suc i * R) P =
      rw (before.0, before.1, f.pieces i h, masked-back (piece R P i) s short) (sym (take-piece R P i)) in (
        ap₂ (λ (t : List ℕ) (w : Run). passed (block R t i) w) found before.0
            ∙ ap (λ (b : List ℕ). passed b (encrypting R r P i).run) (rw (← add-one) (block-take R P i)),
        found,
      )

module _ (R : ℕ) (pos : 0 < R) (r : Run) (wide : R ≤ length r.state) (C : List ℕ) where
  abbrev open_state : ℕ → List ℕ
  open_state i = (decrypting R r C i).run.state

  pub length_found : (i : ℕ) → length (decrypting R r C i).text ≡ min (i * R) (length C)
  unfolding decrypting
  length_found zero = rw zero-mul (omega arith)
  length_found (suc i) =
      let l = length-piece R C i in
      let short : length (piece R C i) ≤ length (open_state i) = omega (arith, length-decrypting R r C i) in
      length-append (decrypting R r C i).text (masked (piece R C i) (open_state i))
      ∙ omega (arith, length_found i, length-masked (piece R C i) (open_state i) short, suc-mul i R)

  pub opening-grows : Growing R (λ i. (decrypting R r C i).text) (λ i. masked (piece R C i) (open_state i)) (block_count R C)
  unfolding decrypting
  opening-grows = record {
    more = λ i h. refl;
    long = λ i h. omega (arith, length_found i, piece-starts R C i h);
    ends = omega (arith, length_found (block_count R C));
  }

  -- what opening finds in C
  abbrev found : List ℕ
  found = (decrypting R r C (block_count R C)).text

  found-long : length found ≡ length C
  found-long = omega (arith, length_found (block_count R C), pieces-reach R C pos)

  found-run : (i : ℕ) → i ≤ block_count R C → (encrypting R r found i).run ≡ (decrypting R r C i).run
  unfolding encrypting decrypting
  found-run zero h = refl
  found-run (suc i) h =
      ap₂ passed
      (rw (add-one i) at (sym (block-take R found i)) ∙ ap (λ (t : List ℕ). block R t i) (grown opening-grows (suc i) h))
      (found-run i (omega arith))

  -- is a message that C follows
  pub opened-follows : Follows R r found C
  opened-follows = record {
    long = found-long;
    pieces = λ i h.
        let g : i < block_count R C = rw found-long at h in
        let s : (encrypting R r found i).run ≡ (decrypting R r C i).run = found-run i (omega arith) in
        let short : length (piece R C i) ≤ length (open_state i) = omega (arith, length-piece R C i, length-decrypting R r C i) in
        sym (rw (s, grown-piece opening-grows i g) (masked-back (piece R C i) (open_state i) short));
  }
