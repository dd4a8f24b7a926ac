-- Whole blocks of a message taken in part after part are those of the message; and with its last block they make document 01's
-- digest. Assumes nothing.
use Rattle.std.specs.Prelude.{◌≡◌, refl, List, ◌++◌, ℕ, zero, suc, ◌+◌, ◌*◌, ◌/◌, ◌≤◌, ◌<◌, length, take, drop, replicate}
use Rattle.std.proofs.Common.{sym, ap, ◌∙◌, add-zero, add-suc, add-mul, suc-mul, zero-mul, div-mul-le_self, add-one, arith, length-append, length-drop, take-append-drop, take_all, take_at}
use Rattle.std.proofs.Math.Nat.{div-eq_of_lt, mul-add-div_right}
use Rattle.std.proofs.lemmas.List.{length-replicate, take-append-le, drop-append-le}
use Rattle.std.proofs.Math.Seq.{drop-append-add}
use Rattle.gage_spec.specs.Permutation.{ROUNDS, permute}
use Rattle.gage_spec.specs.States.{length-permute}
use Rattle.gage_sponge.specs.Padding.{LARGEST-RATE, last_block}
use Rattle.gage_sponge.specs.Absorbing.{xored, Run, from, changed, called}
use Rattle.gage_sponge.proofs.Blocks.{block-whole, last-block-cut, take-replicate}
use Rattle.gage_sponge.specs.Xor.{length-xored}
use Rattle.digest_spec.specs.Hashing.{absorbed, squeezed, sponged}
use Rattle.digest_sponge.specs.Calls.{squeezed-calls}
use Rattle.digest_spec.specs.Outputs.{squeezed-state}
use Rattle.digest_sponge.specs.Parts.{taken, closed, within}

-- one block, then the permutation
step : List ℕ → Run → Run
step b r = called (permute ROUNDS) (changed (xored b) r)

-- a block of a list that ends in the list's first part
block-before : (R i : ℕ) (a b : List ℕ) → suc i * R ≤ length a → take R (drop (i * R) (a ++ b)) ≡ take R (drop (i * R) a)
block-before R i a b h =
    let e = suc-mul i R in
    ap (take R) (drop-append-le (i * R) a b (omega arith))
    ∙ take-append-le R (drop (i * R) a) b (rw length-drop (omega arith))

-- blocks depend on no byte behind them
pub taken-before : (R : ℕ) (a b : List ℕ) (r : Run) (i : ℕ) → i * R ≤ length a → taken R (a ++ b) r i ≡ taken R a r i
unfolding taken step
taken-before R a b r zero h = refl
taken-before R a b r (suc i) h =
    let e = suc-mul i R in
    ap (λ (x : List ℕ). step x (taken R (a ++ b) r i)) (block-before R i a b h)
    ∙ ap (step (take R (drop (i * R) a))) (taken-before R a b r i (omega arith))

-- whole blocks and then more
pub taken-join : (R : ℕ) (a b : List ℕ) (r : Run) (j k : ℕ) → length a ≡ j * R
    → taken R (a ++ b) r (j + k) ≡ taken R b (taken R a r j) k
unfolding taken step
taken-join R a b r j zero e = ap (taken R (a ++ b) r) (add-zero j) ∙ taken-before R a b r j (omega arith)
taken-join R a b r j (suc k) e =
    let at : drop ((j + k) * R) (a ++ b) ≡ drop (k * R) b =
    ap (λ (n : ℕ). drop n (a ++ b)) (add-mul j k R ∙ ap (λ (n : ℕ). n + k * R) (sym e)) ∙ drop-append-add a b (k * R) in
    ap (taken R (a ++ b) r) (add-suc j k)
    ∙ ap (λ (x : List ℕ). step (take R x) (taken R (a ++ b) r (j + k))) at
    ∙ ap (step (take R (drop (k * R) b))) (taken-join R a b r j k e)

-- a list of j whole blocks and more: what is taken in of it, and what is left
module _ (R j : ℕ) (a c : List ℕ) (pos : 0 < R) (e : length a ≡ j * R) where
  blocks-split : length (a ++ c) / R ≡ j + length c / R
  blocks-split = ap (λ (n : ℕ). n / R) (length-append a c ∙ ap (λ (n : ℕ). n + length c) e) ∙ mul-add-div_right pos j (length c)

  pub taken-split : (r : Run) → taken R (a ++ c) r (length (a ++ c) / R) ≡ taken R c (taken R a r j) (length c / R)
  taken-split r = ap (taken R (a ++ c) r) blocks-split ∙ taken-join R a c r j (length c / R) e

  pub left_split : drop (length (a ++ c) / R * R) (a ++ c) ≡ drop (length c / R * R) c
  left_split =
      ap (λ (n : ℕ). drop (n * R) (a ++ c)) blocks-split
      ∙ ap (λ (n : ℕ). drop n (a ++ c)) (add-mul j (length c / R) R ∙ ap (λ (n : ℕ). n + length c / R * R) (sym e))
      ∙ drop-append-add a c (length c / R * R)

-- a list with no whole block
module _ (R : ℕ) (a : List ℕ) (h : length a < R) where
  pub taken-short : (r : Run) → taken R a r (length a / R) ≡ r
  unfolding taken
  taken-short r = rw (div-eq_of_lt h)

  pub left-short : drop (length a / R * R) a ≡ a
  left-short = rw (div-eq_of_lt h, zero-mul R)

-- a state keeps its length, depends on no call made before, and each block is one call
pub length_taken : (R : ℕ) (x : List ℕ) (r : Run) (k : ℕ) → length (taken R x r k).state ≡ length r.state
unfolding taken
length_taken R x r zero = refl
length_taken R x r (suc k) =
    let s = (taken R x r k).state in
    length-permute ROUNDS (xored (take R (drop (k * R) x)) s) ∙ length-xored (take R (drop (k * R) x)) s ∙ length_taken R x r k

pub taken-state : (R : ℕ) (x : List ℕ) (r q : Run) (k : ℕ) → r.state ≡ q.state → (taken R x r k).state ≡ (taken R x q k).state
unfolding taken
taken-state R x r q zero e = e
taken-state R x r q (suc k) e =
    ap (λ (s : List ℕ). permute ROUNDS (xored (take R (drop (k * R) x)) s)) (taken-state R x r q k e)

pub taken-calls : (R : ℕ) (x : List ℕ) (r : Run) (k : ℕ) → (taken R x r k).calls ≡ r.calls + k
unfolding taken
taken-calls R x r zero = omega arith
taken-calls R x r (suc k) = omega (arith, taken-calls R x r k)

pub closed-calls : (R k : ℕ) (rest : List ℕ) (r : Run) → (closed R k rest r).run.calls ≡ r.calls + 1 + k
unfolding closed
closed-calls R k rest r = squeezed-calls R (called (permute ROUNDS) (changed (xored (take R (last_block rest))) r)) k

pub closed-state : (R k : ℕ) (rest : List ℕ) (r q : Run) → r.state ≡ q.state → (closed R k rest r).hash ≡ (closed R k rest q).hash
unfolding closed step
closed-state R k rest r q e =
    let b : List ℕ = take R (last_block rest) in
    squeezed-state R (step b r) (step b q) k (ap (λ (s : List ℕ). permute ROUNDS (xored b s)) e)

-- x stands first in a longer list of zeros
pub within-front : (n k : ℕ) (x : List ℕ) → length x ≡ n → n ≤ k → take n (within k x) ≡ x
within-front n k x e h =
    let z : List ℕ = replicate k 0 in
    let all : take (length z) x ≡ x = rw (length-replicate {A = ℕ} k 0) (take_all k x (omega arith)) in
    rw all (take_at x (drop (length x) z) n e)

-- zeros with zeros behind them
pub within-zeros : (n k : ℕ) → n ≤ k → within k (replicate n 0) ≡ replicate k 0
within-zeros n k h =
    let z : List ℕ = replicate k 0 in
    let s : List ℕ = replicate n 0 in
    let ls : length s ≡ n = length-replicate {A = ℕ} n 0 in
    let all : take (length z) s ≡ s = rw (length-replicate {A = ℕ} k 0) (take_all k s (omega arith)) in
    rw (all, ls) (ap (λ (l : List ℕ). l ++ drop n z) (sym (take-replicate n k 0 h)) ∙ take-append-drop n z)

-- a message's whole blocks, from a state of zeros
pub absorbed-taken : (n R : ℕ) (m : List ℕ) (i : ℕ) → i * R ≤ length m → absorbed n R m i ≡ taken R m (from (replicate n 0)) i
unfolding absorbed taken step
absorbed-taken n R m zero h = refl
absorbed-taken n R m (suc i) h =
    let e = suc-mul i R in
    ap (λ (b : List ℕ). step b (absorbed n R m i)) (block-whole R m i (rw add-one h))
    ∙ ap (step (take R (drop (i * R) m))) (absorbed-taken n R m i (omega arith))

-- the whole sponge is its whole blocks and the rest
pub sponged-closed : (n R k : ℕ) (m : List ℕ) → 0 < R → R ≤ LARGEST-RATE
    → sponged n R k m ≡ closed R k (drop (length m / R * R) m) (taken R m (from (replicate n 0)) (length m / R))
unfolding sponged closed absorbed step
sponged-closed n R k m pos h =
    let q = length m / R in
    ap (λ (j : ℕ). squeezed R (absorbed n R m j) k) (add-one q)
    ∙ ap (λ (b : List ℕ). squeezed R (step b (absorbed n R m q)) k) (sym (last-block-cut R m q pos h refl))
    ∙ ap (λ (r : Run). squeezed R (step (take R (last_block (drop (q * R) m))) r) k) (absorbed-taken n R m q (div-mul-le_self (length m) R))
