-- A block is its piece of the text, padded: for the last block and for the whole ones before it. Where the code has a piece
-- end, and the turns of a loop over blocks. Assumes nothing.
use mathlib.Core.Path.{◌≡◌, sym, ◌∙◌}
use mathlib.Core.List.{List}
use Prim.Native.Nat.{ℕ, ◌+◌, ◌-◌, ◌*◌, ◌/◌, ◌%◌, ◌≤◌, ◌<◌, min}
use native.Mathlib.Nat.{mul-le-mul_right, div-le_self, div-mul-le_self}
use native.Mathlib.Decide.{dec_lt}
use native.Mathlib.Omega.{arith}
use lib.Dec.{eqb, ltb}
use lib.ListN.{length, take, drop, length-take, length-drop}
use lib.Seq.{take_all, take_at}
use Rattle.gage_sponge.specs.Padding.{padded, block, block_count, last_block, LARGEST-RATE}
use Rattle.gage_sponge.proofs.Blocks.{blocks-suc, whole-rest, block-whole, last-block-cut}
use borrow.Author.Tests.{eq-eqb, ne_eqb, lt-ltb, le-ltb}
use Rattle.ingage_spec.specs.declared.Instance.{Instance}
use Rattle.ingage_spec.specs.Instances.{Fitting}
use Rattle.ingage_spec.specs.Cipher.{piece, associated_block}
use Rattle.ingage_spec.specs.Pieces.{length-piece, cut}
use Rattle.ingage_steps.specs.Arrays.{marked_block}

-- the part of a text that the code takes for piece i
pub piece-part : (R : ℕ) (m : List ℕ) (i end : ℕ) → i * R ≤ length m → end ≡ min (i * R + R) (length m) → take (end - i * R) (drop (i * R) m) ≡ piece R m i
unfolding piece
piece-part R m i end h e =
    let k : end - i * R ≡ min R (length (drop (i * R) m)) = omega (arith, length-drop (i * R) m) in
    rw k (cut R (drop (i * R) m))

-- where the code has it end: behind its start, within the text, and no more than a block further
pub end-between : (R at n end : ℕ) → at ≤ n → end ≡ min (at + R) n → (at ≤ end) × (end ≤ n) × (end - at ≤ R)
end-between R at n end h e = (omega arith, omega arith, omega arith)

-- no more bytes than were asked for
pub cut_short : (k : ℕ) (l : List ℕ) → length (take k l) ≤ k
cut_short k l = omega (arith, length-take k l)

-- the count of blocks
pub most-blocks : (R n : ℕ) → n / R + 1 ≤ n + 1
most-blocks R n = omega (arith, div-le_self n R)

pub block_of : (R : ℕ) (m : List ℕ) (i : ℕ) → 1 ≤ R → R < LARGEST-RATE → i < block_count R m → take R (last_block (piece R m i)) ≡ block R m i
unfolding piece last_block padded
block_of R m i pos small h = elim (dec_lt i (length m / R)) [
  | yes g ↦
      let k : i + 1 ≤ length m / R = omega (arith, g) in
      let b : (i + 1) * R ≤ length m = omega (arith, mul-le-mul_right R k, div-mul-le_self (length m) R) in
      let l : length (take R (drop (i * R) m)) ≡ R = rw (length-take, length-drop) (omega (arith, blocks-suc i R)) in
      rw (block-whole R m i b, take_all (LARGEST-RATE - 1) (take R (drop (i * R) m)) (omega arith))
      (take_at (take R (drop (i * R) m)) _ R l)
  | no g ↦
      let e : i ≡ length m / R = omega (arith, g) in
      let w = whole-rest R (length m) pos in
      let b : i * R + length m % R ≡ length m = rw e w.0 in
      rw (take_all R (drop (i * R) m) (rw length-drop (omega arith))) (last-block-cut R m i pos (omega arith) e)
]

-- the last piece, and no other, is shorter than a block
pub short-last : (R : ℕ) (m : List ℕ) (i : ℕ) → 1 ≤ R → i < block_count R m → ltb (length (piece R m i)) R ≡ eqb (i + 1) (block_count R m)
short-last R m i pos h = elim (dec_lt i (length m / R)) [
  | yes g ↦
      let k : i + 1 ≤ length m / R = omega (arith, g) in
      let b : (i + 1) * R ≤ length m = omega (arith, mul-le-mul_right R k, div-mul-le_self (length m) R) in
      le-ltb (length (piece R m i)) R (omega (arith, length-piece R m i, blocks-suc i R))
      ∙ sym (ne_eqb (i + 1) (length m / R + 1) (λ e. omega (arith, e)))
  | no g ↦
      let e : i ≡ length m / R = omega (arith, g) in
      let w = whole-rest R (length m) pos in
      let b : i * R + length m % R ≡ length m = rw e w.0 in
      lt-ltb (length (piece R m i)) R (omega (arith, length-piece R m i, w))
      ∙ sym (eq-eqb (i + 1) (length m / R + 1) (omega arith))
]

-- the associated data's block is that of its piece
pub marked-piece : (z : Instance) (A : List ℕ) (i : ℕ) → Fitting z → i < block_count z.rate A
    → marked_block z.rate (piece z.rate A i) ≡ associated_block z A i
unfolding marked_block associated_block
marked-piece z A i fits h =
    rw (short-last z.rate A i fits.moves h, block_of z.rate A i fits.moves fits.small h)
