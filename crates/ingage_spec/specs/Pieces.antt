-- Laws of the pieces of a text at a rate of R bytes: how they make up the text, and that a block is its piece and padding behind it.
-- Assumes nothing.
use Rattle.std.specs.Prelude.{◌≡◌, List, ◌∷◌, ◌++◌, ℕ, zero, suc, ◌+◌, ◌-◌, ◌*◌, ◌/◌, ◌%◌, ◌≤◌, ◌<◌, min, length, take, drop, replicate}
use Rattle.std.proofs.Common.{sym, ap, ap₂, ◌∙◌, zero-mul, add-zero, add-suc, mul-le-mul_right, div-mul-le_self, add-one, arith, length-take, length-drop, take_all, take-take, take-add, drop_at, length-take-le}
use Rattle.std.proofs.Math.Nat.{min-eq_left, min-eq_right}
use Rattle.std.proofs.Math.Decide.{dec_le, dec_lt}
use Rattle.std.proofs.Math.Seq.{take-length}
use Rattle.std.proofs.lemmas.List.{take-append-le, drop-append-le}
use Rattle.gage_sponge.specs.Padding.{padded, block, block_count}
use Rattle.gage_sponge.proofs.Blocks.{blocks-suc, whole-rest}
use Rattle.ingage_spec.specs.Cipher.{piece}

-- a piece that there is starts in the text or at its end
pub piece-starts : (R : ℕ) (m : List ℕ) (i : ℕ) → i < block_count R m → i * R ≤ length m
piece-starts R m i h =
    let k : i ≤ length m / R = omega arith in
    omega (arith, mul-le-mul_right R k, div-mul-le_self (length m) R)

-- the pieces reach to the text's end
pub pieces-reach : (R : ℕ) (m : List ℕ) → 0 < R → length m ≤ block_count R m * R
pieces-reach R m pos = omega (arith, whole-rest R (length m) pos, blocks-suc (length m / R) R)

-- one piece more
pub take-piece : (R : ℕ) (m : List ℕ) (i : ℕ) → take (suc i * R) m ≡ take (i * R) m ++ piece R m i
unfolding piece
take-piece R m i = rw (← add-one, blocks-suc i R) (take-add (i * R) R m)

pub length-piece : (R : ℕ) (m : List ℕ) (i : ℕ) → length (piece R m i) ≡ min R (length m - i * R)
unfolding piece
length-piece R m i = rw (length-take, length-drop)

-- a list that ends with the next bytes of m ends with a piece of m
pub piece_is : (R : ℕ) (m : List ℕ) (i : ℕ) (x : List ℕ) → i * R ≤ length m → take (suc i * R) m ≡ take (i * R) m ++ x → piece R m i ≡ x
piece_is R m i x h e =
    sym (drop_at (take (i * R) m) (piece R m i) (i * R) (length-take-le (i * R) m h))
    ∙ ap (λ (l : List ℕ). drop (i * R) l) (sym (take-piece R m i) ∙ e)
    ∙ drop_at (take (i * R) m) x (i * R) (length-take-le (i * R) m h)

-- no more bytes than there are
pub cut : (n : ℕ) (d : List ℕ) → take (min n (length d)) d ≡ take n d
cut n d = elim (dec_le n (length d)) [
  | yes h ↦ rw (min-eq_left h)
  | no h ↦
      let g : length d ≤ n = omega (arith, h) in
      rw (min-eq_right g) (take-length d ∙ sym (take_all n d g))
]

pub take-both : (n k : ℕ) (d : List ℕ) → take n (take k d) ≡ take (min k n) d
take-both n k d = elim (dec_le n k) [
  | yes h ↦ rw (min-eq_right h) (take-take n k d h)
  | no h ↦
      let g : k ≤ n = omega (arith, h) in
      rw (min-eq_left g) (take_all n (take k d) (rw length-take (omega arith)))
]

-- a block begins with its piece
pub block-piece : (R : ℕ) (m : List ℕ) (i : ℕ) → i < block_count R m → take (length (piece R m i)) (block R m i) ≡ piece R m i
unfolding piece block padded
block-piece R m i h =
    let s = piece-starts R m i h in
    let pad : List ℕ = 0x80 ∷ replicate (R - 1 - length m % R) 0 in
    let d : List ℕ = drop (i * R) m in
    let l : length (take R d) ≡ min R (length d) = length-take R d in
    rw (drop-append-le (i * R) m pad s, take-take (length (take R d)) R (d ++ pad) (omega arith), take-append-le (length (take R d)) d pad (omega arith))
    (ap (λ (n : ℕ). take n d) l ∙ cut R d)

-- texts with the same pieces are the same
pub same-pieces : (R : ℕ) (x y : List ℕ) (k : ℕ) → ((i : ℕ) → i < k → piece R x i ≡ piece R y i) → take (k * R) x ≡ take (k * R) y
same-pieces R x y zero e = rw zero-mul
same-pieces R x y (suc k) e =
    rw (take-piece R x k, take-piece R y k) (ap₂ ◌++◌ (same-pieces R x y k (λ i h. e i (omega arith))) (e k (omega arith)))

-- a text W that grows by a piece X each time, k times: every piece before the last is a whole one
pub record Growing (R : ℕ) (W X : ℕ → List ℕ) (k : ℕ) : Type 0 where
  pub more : (i : ℕ) → i < k → W (suc i) ≡ W i ++ X i
  pub long : (i : ℕ) → i < k → length (W i) ≡ i * R
  pub ends : length (W k) ≤ k * R

module _ {R k : ℕ} {W X : ℕ → List ℕ} (g : Growing R W X k) where
  -- it never has more than its pieces
  at_most : (i : ℕ) → i ≤ k → length (W i) ≤ i * R
  at_most i h = elim (dec_lt i k) [
    | yes l ↦ omega (arith, g.long i l)
    | no l ↦ let e : k ≡ i = omega (arith, l) in rw e at g.ends
  ]

  earlier : (i j : ℕ) → i + j ≤ k → take (i * R) (W (i + j)) ≡ W i
  earlier i zero h = rw add-zero (take_all (i * R) (W i) (at_most i (omega arith)))
  earlier i (suc j) h =
      let l : i + j < k = omega arith in
      rw (add-suc, g.more (i + j) l)
      (take-append-le (i * R) (W (i + j)) (X (i + j)) (rw (g.long (i + j) l) (mul-le-mul_right R (omega arith))) ∙ earlier i j (omega arith))

  -- what it had are its first bytes
  pub grown : (i : ℕ) → i ≤ k → take (i * R) (W k) ≡ W i
  grown i h = let e : k ≡ i + (k - i) = omega arith in ap (λ (n : ℕ). take (i * R) (W n)) e ∙ earlier i (k - i) (omega arith)

  -- and what it grew by are its pieces
  pub grown-piece : (i : ℕ) → i < k → piece R (W k) i ≡ X i
  grown-piece i h =
      let e = grown i (omega arith) in
      piece_is R (W k) i (X i) (omega (arith, ap length e, length-take (i * R) (W k), g.long i h))
      (grown (suc i) h ∙ g.more i h ∙ ap (λ (l : List ℕ). l ++ X i) (sym e))
