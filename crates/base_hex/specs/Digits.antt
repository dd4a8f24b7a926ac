-- Laws of hexadecimal text: its length, and one byte more of it. Assumes nothing.
use Rattle.std.specs.Prelude.{◌≡◌, refl, length, get_or, take, set}
use Rattle.std.proofs.Common.{sym, ◌∙◌, arith, take-suc, take_all, length-take-le}
use Rattle.std.proofs.Math.Path.{ap}
use mathlib.Core.List.{List, [], ◌∷◌, ◌++◌}
use Prim.Native.Nat.{ℕ, suc, ◌+◌, ◌*◌, ◌/◌, ◌%◌, ◌≤◌, ◌<◌}
use Rattle.std.proofs.Math.Numerals.{add-one}
use Rattle.std.proofs.Math.Seq.{sets}
use Rattle.base_lists.specs.Buffers.{over}
use Rattle.base_lists.specs.Over.{over-length, over-more}
use Rattle.base_hex.specs.Hex.{digit, hex_of, fitting, hex_length, hex_out}

pub length-hex : (s : List ℕ) → length (hex_of s) ≡ 2 * length s
unfolding hex_of
length-hex [] = refl
length-hex (b ∷ s) = omega (arith, length-hex s)

hex-append : (s t : List ℕ) → hex_of (s ++ t) ≡ hex_of s ++ hex_of t
unfolding hex_of
hex-append [] t = refl
hex-append (b ∷ s) t = ap (λ (l : List ℕ). digit (b / 16) ∷ digit (b % 16) ∷ l) (hex-append s t)

-- a loop that writes digits, after i bytes
pub record Written (s o out : List ℕ) (i : ℕ) : Type 0 where
  pub turns : i ≤ length s
  pub room : 2 * i ≤ length o
  pub put : out ≡ over (hex_of (take i s)) o

pub written_none : (s o : List ℕ) → Written s o o 0
unfolding hex_of
written_none s o = record { turns = omega arith; room = omega arith; put = refl }

module _ {s o out : List ℕ} {i : ℕ} (w : Written s o out i) where
  front : length (hex_of (take i s)) ≡ 2 * i
  front = length-hex (take i s) ∙ ap (λ (n : ℕ). 2 * n) (length-take-le i s w.turns)

  pub written-length : length out ≡ length o
  written-length = let r : 2 * i ≤ length o = w.room in
      ap length w.put ∙ over-length (hex_of (take i s)) o (omega (arith, front))

  pub written-more : (a b : ℕ) → i < length s → i < length o / 2 → a ≡ digit (get_or s i 0 / 16) → b ≡ digit (get_or s i 0 % 16)
      → Written s o (set (set out (2 * i) a) (2 * i + 1) b) (i + 1)
  unfolding hex_of
  written-more a b h g p q =
      let pair : List ℕ = digit (get_or s i 0 / 16) ∷ digit (get_or s i 0 % 16) ∷ [] in
      let two : sets (over (hex_of (take i s)) o) (length (hex_of (take i s))) pair ≡ over (hex_of (take i s) ++ pair) o =
      over-more (hex_of (take i s)) pair o (omega (arith, front)) in
      let grown : hex_of (take (suc i) s) ≡ hex_of (take i s) ++ pair = ap hex_of (take-suc s i 0 h) ∙ hex-append (take i s) (get_or s i 0 ∷ []) in
      record { turns = omega arith; room = omega arith; put = rw (w.put, p, q, add-one, ← front, add-one, grown) two }

  pub written_all : (length s ≤ i) → (2 * i ≡ hex_length s o) × (out ≡ hex_out s o)
  written_all h =
      let t : i ≤ length s = w.turns in
      let r : 2 * i ≤ length o = w.room in
      let f : fitting s o ≡ take i s = take_all (length o / 2) s (omega arith) ∙ sym (take_all i s h) in
      (rw (f, length-take-le i s t), w.put ∙ rw f)

  pub written-full : length o / 2 ≤ i → (2 * i ≡ hex_length s o) × (out ≡ hex_out s o)
  written-full h =
      let t : i ≤ length s = w.turns in
      let r : 2 * i ≤ length o = w.room in
      let n : length o / 2 ≡ i = omega arith in
      (rw (n, length-take-le i s t), w.put ∙ rw n)
