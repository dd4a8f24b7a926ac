-- Laws of padded messages and their blocks, at every rate R above 0: how many there are, how long they are, what each holds,
-- and that a block depends on no later byte of the message. Assumes nothing.
use Rattle.std.specs.Prelude.{◌≡◌, refl, List, ◌∷◌, ◌++◌, ℕ, zero, suc, ◌+◌, ◌-◌, ◌*◌, ◌/◌, ◌%◌, ◌≤◌, ◌<◌, length, take, drop, replicate}
use Rattle.std.proofs.Common.{sym, ap, ◌∙◌, mod-lt, mod-eq_of_lt, div-add-mod', suc-mul, mul-le-mul_right, div-mul-le_self, le_trans, not-suc-le-zero, le_of_suc-le-suc, add-one, arith, length-append, length-take, length-drop, take_all, take-take, take-add, drop_at, length-take-le}
use Rattle.std.proofs.Math.Nat.{div-eq_of_lt}
use Rattle.std.proofs.Math.Decide.{dec_le}
use Rattle.std.proofs.lemmas.List.{length-replicate, take-append-le, drop-append-le}
use Rattle.std.proofs.Math.Seq.{take-append-add}
use Rattle.base_lists.specs.Below.{Below, below-append, below-take, below-drop, below-replicate}
use Rattle.gage_sponge.specs.Padding.{STOP, padded, block_count, block, LARGEST-RATE, last_block}

-- one block more
pub blocks-suc : (i R : ℕ) → (i + 1) * R ≡ i * R + R
blocks-suc i R = ap (λ (n : ℕ). n * R) (add-one i) ∙ suc-mul i R

-- a message is its whole blocks and a rest shorter than a block
pub whole-rest : (R n : ℕ) → 0 < R → (n / R * R + n % R ≡ n) × (n % R < R)
whole-rest R n pos = (div-add-mod' n R, mod-lt n pos)

-- a whole block ends no later than the message
pub whole-ends : (R n i : ℕ) → i < n / R → (i + 1) * R ≤ n
whole-ends R n i h = le_trans (mul-le-mul_right R (omega arith)) (div-mul-le_self n R)

-- Algorithm 3's block count
pub length-padded : (R : ℕ) (m : List ℕ) → 0 < R → length (padded R m) ≡ block_count R m * R
unfolding padded
length-padded R m pos =
    let w = whole-rest R (length m) pos in
    rw (length-append, length-replicate, blocks-suc (length m / R) R) (omega arith)

-- a message shorter than a block makes one block
pub padded-short : (R : ℕ) (m : List ℕ) → length m < R → padded R m ≡ m ++ (STOP ∷ replicate (R - 1 - length m) 0)
unfolding padded
padded-short R m h = rw (mod-eq_of_lt h)

-- a block that is there ends no later than the padded message
pub block-ends : (R : ℕ) (m : List ℕ) (i : ℕ) → 0 < R → i < block_count R m → i * R + R ≤ length (padded R m)
block-ends R m i pos h =
    rw (length-padded R m pos, ← blocks-suc i R) (mul-le-mul_right R (omega arith))

pub length-block : (R : ℕ) (m : List ℕ) (i : ℕ) → 0 < R → i < block_count R m → length (block R m i) ≡ R
unfolding block
length-block R m i pos h =
    let e = block-ends R m i pos h in
    length-take-le R (drop (i * R) (padded R m)) (rw length-drop (omega arith))

-- a block before the last one stands in the message
pub block-whole : (R : ℕ) (m : List ℕ) (i : ℕ) → (i + 1) * R ≤ length m → block R m i ≡ take R (drop (i * R) m)
unfolding block padded
block-whole R m i h =
    let s = blocks-suc i R in
    rw (drop-append-le (i * R) m (STOP ∷ replicate (R - 1 - length m % R) 0) (omega arith))
    (take-append-le R (drop (i * R) m) (STOP ∷ replicate (R - 1 - length m % R) 0) (rw length-drop (omega arith)))

-- the last block is the rest of the message, the stop byte and zeros
pub block_last : (R : ℕ) (m : List ℕ) (i : ℕ) → 0 < R → i ≡ length m / R
    → block R m i ≡ drop (i * R) m ++ (STOP ∷ replicate (R - 1 - length m % R) 0)
unfolding block padded
block_last R m i pos e =
    let w = whole-rest R (length m) pos in
    let b : i * R + length m % R ≡ length m = rw e w.0 in
    let rest : List ℕ = STOP ∷ replicate (R - 1 - length m % R) 0 in
    rw (drop-append-le (i * R) m rest (omega arith))
    (take_all R (drop (i * R) m ++ rest) (rw (length-append, length-drop, length-replicate) (omega arith)))

pub block-below : (R : ℕ) (m : List ℕ) (i : ℕ) → Below 256 m → Below 256 (block R m i)
unfolding block padded
block-below R m i b =
    below-take 256 R (drop (i * R) (padded R m)) (below-drop 256 (i * R) (padded R m)
    (below-append 256 m (STOP ∷ replicate (R - 1 - length m % R) 0) b (search arith, below-replicate 256 (R - 1 - length m % R) 0 (search arith))))

-- a part of a list, cut off behind the part
take-drop-take : (k n : ℕ) (m : List ℕ) → k + n ≤ length m → take n (drop k (take (k + n) m)) ≡ take n (drop k m)
take-drop-take k n m h =
    rw (take-add k n m, drop_at (take k m) (take n (drop k m)) k (length-take-le k m (omega arith)))
    (take-take n n (drop k m) (omega arith))

-- block i depends on no byte of the message behind it
pub block-take : (R : ℕ) (m : List ℕ) (i : ℕ) → block R (take ((i + 1) * R) m) i ≡ block R m i
block-take R m i = elim (dec_le ((i + 1) * R) (length m)) [
  | yes h ↦
      block-whole R (take ((i + 1) * R) m) i (rw (length-take-le ((i + 1) * R) m h) (omega arith))
      ∙ rw (blocks-suc i R) (take-drop-take (i * R) R m (omega (arith, blocks-suc i R)))
      ∙ sym (block-whole R m i h)
  | no h ↦ rw (take_all ((i + 1) * R) m (omega (arith, h)))
]

pub take-replicate : (k n a : ℕ) → k ≤ n → take k (replicate n a) ≡ replicate k a
take-replicate zero n a h = refl
take-replicate (suc k) zero a h = absurd (not-suc-le-zero h)
take-replicate (suc k) (suc n) a h = ap (λ (l : List ℕ). a ∷ l) (take-replicate k n a (le_of_suc-le-suc h))

-- a rest d of less than R bytes, padded at another rate and cut to R bytes, is padded at R
cut-padding : (R n : ℕ) (d : List ℕ) → length d < R → R - 1 - length d ≤ n
    → take R (d ++ (STOP ∷ replicate n 0)) ≡ d ++ (STOP ∷ replicate (R - 1 - length d) 0)
cut-padding R n d h g =
    let k : R ≡ length d + suc (R - 1 - length d) = omega arith in
    ap (λ (x : ℕ). take x (d ++ (STOP ∷ replicate n 0))) k
    ∙ take-append-add d (STOP ∷ replicate n 0) (suc (R - 1 - length d))
    ∙ ap (λ (l : List ℕ). d ++ (STOP ∷ l)) (take-replicate (R - 1 - length d) n 0 g)

pub length-last-block : (rest : List ℕ) → length (last_block rest) ≡ LARGEST-RATE
unfolding last_block
length-last-block rest =
    let short : length (take (LARGEST-RATE - 1) rest) < LARGEST-RATE = rw length-take (omega arith) in
    length-padded LARGEST-RATE (take (LARGEST-RATE - 1) rest) (omega arith)
    ∙ rw (div-eq_of_lt short)

-- the last block at each rate, from what is left of the message
pub last-block-cut : (R : ℕ) (m : List ℕ) (i : ℕ) → 0 < R → R ≤ LARGEST-RATE → i ≡ length m / R
    → take R (last_block (drop (i * R) m)) ≡ block R m i
unfolding last_block
last-block-cut R m i pos h e =
    let w = whole-rest R (length m) pos in
    let b : i * R + length m % R ≡ length m = rw e w.0 in
    let d : length (drop (i * R) m) ≡ length m % R = length-drop (i * R) m ∙ omega arith in
    rw (take_all (LARGEST-RATE - 1) (drop (i * R) m) (omega arith), padded-short LARGEST-RATE (drop (i * R) m) (omega arith))
    (cut-padding R (LARGEST-RATE - 1 - length (drop (i * R) m)) (drop (i * R) m) (omega arith) (omega arith)
    ∙ ap (λ (x : ℕ). drop (i * R) m ++ (STOP ∷ replicate (R - 1 - x) 0)) d)
    ∙ sym (block_last R m i pos e)
