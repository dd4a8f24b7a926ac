-- Rounds on two windows, one after the other: four turns have room between two drawings. Assumes nothing.
use Rattle.std.specs.Prelude.{◌≡◌, List, ℕ, ◌+◌, ◌-◌, ◌^◌, ◌≤◌, ◌<◌, length, get_or, take}
use Rattle.std.proofs.Common.{◌∙◌, arith}
use Rattle.base_lists.specs.Below.{Below}
use Rattle.gage_spec.specs.Permutation.{MOST-ROUNDS, leaders, permute_by, permute}
use Rattle.gage_spec.specs.States.{length-permute_by}
use Rattle.base_digits.specs.Held.{WORD}
use Rattle.gage_planes_spec.specs.declared.Windows.{Windows}
use Rattle.gage_planes_spec.specs.Planes.{substituted_both, turned_both, drawn_both}
use Rattle.gage_planes_spec.specs.Windows.{HoldBoth}
use Rattle.gage_planes_spec.proofs.WindowsLaws.{both_fewer, both-substituted, both-drawn, both-turned}
use Rattle.gage_planes_spec.specs.Rounds.{PermutedBoth}
use Rattle.gage_planes_spec.proofs.Rounding.{one_more, first_round}
use Rattle.gage_planes_spec.specs.Both.{OnwardBoth}

pub onward-none : (h i : ℕ) (q : Windows) → OnwardBoth h i q i q
onward-none h i q = record { from = λ s l b a. a }

module _ (h m : ℕ) (wide : WORD ≤ h + h) (narrow : h ≤ 36) (e : m ≡ 2 ^ h - 1) where
  -- drawn out for four turns
  drawn : (w : Windows) (s : List ℕ) (v : ℕ) → length s ≡ h + h → h ≤ v → HoldBoth h v w s → HoldBoth h WORD (drawn_both w m h) s
  drawn w s v long enough a =
      let z : h + (WORD - h) ≡ WORD = omega arith in
      rw e (rw z at (both-drawn h s long (omega arith) wide (WORD - h) w (omega arith) (omega arith) (both_fewer h enough a)))

  -- one round more, by a turn
  turn : (v l i : ℕ) (w : Windows) (s : List ℕ) → length s ≡ h + h → 7 + v ≤ WORD → h ≤ v → 1 ≤ i → i < MOST-ROUNDS → (l ≡ get_or leaders i 0) × (l < 4)
      → HoldBoth h (7 + v) w (permute_by (take i leaders) s) → HoldBoth h v (turned_both w h l) (permute_by (take (i + 1) leaders) s)
  turn v l i w s long fits enough some few led a =
      let x = permute_by (take i leaders) s in
      rw (one_more i s some few, ← led.0) (both-turned h v l w x (length-permute_by (take i leaders) s ∙ long) (omega arith) wide fits enough led.1 a)

  -- the first round
  pub both_first : {w q r : Windows} (l : ℕ) (s : List ℕ) → (l ≡ get_or leaders 0 0) × (l < 4) → q ≡ drawn_both w m h → r ≡ substituted_both q h l
      → length s ≡ h + h → Below 256 s → HoldBoth h h w s → HoldBoth h WORD r (permute_by (take 1 leaders) s)
  both_first {w} {q} {r} l s led d f long small a =
      rw (f, d, first_round s, ← led.0)
      (both-substituted h s long (omega arith) wide WORD (omega arith) (omega arith) l (drawn_both w m h) led.1 small (drawn w s h long (omega arith) a))

  pub onward-four : {j : ℕ} {q r t x : Windows} (a b c d i : ℕ) → 1 ≤ i → i + 3 < MOST-ROUNDS → (a ≡ get_or leaders i 0) × (a < 4)
      → (b ≡ get_or leaders (i + 1) 0) × (b < 4) → (c ≡ get_or leaders (i + 2) 0) × (c < 4) → (d ≡ get_or leaders (i + 3) 0) × (d < 4)
      → t ≡ turned_both (turned_both (turned_both (turned_both r h a) h b) h c) h d → x ≡ drawn_both t m h
      → OnwardBoth h j q i r → OnwardBoth h j q (i + 4) x
  onward-four {r = r} a b c d i some few la lb lc ld f g o =
      let i2 : i + 1 + 1 ≡ i + 2 = omega arith in
      let i3 : i + 2 + 1 ≡ i + 3 = omega arith in
      let i4 : i + 3 + 1 ≡ i + 4 = omega arith in
      record {
        from = λ s long small held.
            let one = turn 57 a i r s long (omega arith) (omega arith) some (omega arith) la (o.from s long small held) in
            let two = rw i2 at (turn 50 b (i + 1) _ s long (omega arith) (omega arith) (omega arith) (omega arith) lb one) in
            let three = rw i3 at (turn 43 c (i + 2) _ s long (omega arith) (omega arith) (omega arith) (omega arith) lc two) in
            let four = rw i4 at (turn 36 d (i + 3) _ s long (omega arith) narrow (omega arith) few ld three) in
            rw (g, f) (drawn _ (permute_by (take (i + 4) leaders) s) 36 (length-permute_by (take (i + 4) leaders) s ∙ long) narrow four);
      }

  pub onward-one : {j : ℕ} {q r t x : Windows} (l i : ℕ) → 1 ≤ i → i < MOST-ROUNDS → (l ≡ get_or leaders i 0) × (l < 4) → t ≡ turned_both r h l
      → x ≡ drawn_both t m h
      → OnwardBoth h j q i r → OnwardBoth h j q (i + 1) x
  onward-one {r = r} l i some few led f g o = record {
    from = λ s long small held.
        rw (g, f)
        (drawn _ (permute_by (take (i + 1) leaders) s) 57 (length-permute_by (take (i + 1) leaders) s ∙ long) (omega arith)
        (turn 57 l i r s long (omega arith) (omega arith) some few led (o.from s long small held)));
  }

  -- k rounds are all of them
  pub both-all : {w p q r : Windows} (l i k : ℕ) → (l ≡ get_or leaders 0 0) × (l < 4) → p ≡ drawn_both w m h → q ≡ substituted_both p h l → OnwardBoth h 1 q i r
      → i ≡ k
      → PermutedBoth h k w r
  unfolding permute
  both-all l i k led d f o is = record {
    each = λ s long small a. rw is at (both_fewer h (omega arith) (o.from s long small (both_first l s led d f long small a)));
  }
