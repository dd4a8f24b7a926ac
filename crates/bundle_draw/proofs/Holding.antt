-- A text held to a drawing that stands in a buffer is held to the rule that the drawing was made by. Assumes nothing.
use mathlib.Core.Path.{◌≡◌, refl, ap, ◌∙◌}
use mathlib.Core.List.{List, [], ◌∷◌}
use Prim.Native.Nat.{ℕ, zero, suc, suc-le-suc, ◌+◌, ◌-◌, ◌<◌}
use native.Mathlib.Omega.{arith}
use lib.ListN.{length, get_or, take, drop}
use Rattle.base_lists.specs.Buffers.{over}
use Rattle.base_lists.specs.Over.{take-over}
use Rattle.bundle_dots.specs.Faults.{next_row, fault}
use Rattle.bundle_draw.specs.Drawing.{char_at, drawing_length, drawing}
use Rattle.bundle_draw.specs.Listed.{length-listed, get_d-listed}

-- two rules that agree on the places that are left find the same row at fault
agree : (f g : ℕ → ℕ) (left i row : ℕ) (s : List ℕ) → ((k : ℕ) → k < left → f (i + k) ≡ g (i + k)) → fault f left i row s ≡ fault g left i row s
unfolding fault
agree f g zero i row [] e = refl
agree f g zero i row (b ∷ s) e = refl
agree f g (suc left) i row [] e = refl
agree f g (suc left) i row (b ∷ s) e =
    let here : i + 0 ≡ i = omega arith in
    let same : f i ≡ g i = ap f (omega arith) ∙ e 0 (omega arith) ∙ ap g here in
    rw (same, agree f g left (i + 1) (next_row row b) s (λ k h. let on : i + 1 + k ≡ i + suc k = omega arith in rw on (e (suc k) (suc-le-suc h))))

module _ (name rows text o out : List ℕ) (end : ℕ) (drawn : out ≡ over (drawing name rows) o) (is : end ≡ drawing_length (length name)) where
  long : length (drawing name rows) ≡ drawing_length (length name)
  unfolding drawing
  long = length-listed (char_at name rows) (drawing_length (length name))

  front : take (end - 0) (drop 0 out) ≡ drawing name rows
  front = ap (λ (x : List ℕ). take (end - 0) (drop 0 x)) drawn ∙ take-over (drawing name rows) o (end - 0) (omega (arith, long))

  placed : (k : ℕ) → k < drawing_length (length name) → get_or (drawing name rows) k 0 ≡ char_at name rows k
  unfolding drawing
  placed k h = get_d-listed (char_at name rows) (drawing_length (length name)) k h

  pub held_to : fault (λ k. get_or (take (end - 0) (drop 0 out)) k 0) (length (take (end - 0) (drop 0 out))) 0 1 text
      ≡ fault (char_at name rows) (drawing_length (length name)) 0 1 text
  held_to =
      ap (λ (d : List ℕ). fault (λ k. get_or d k 0) (length d) 0 1 text) front
      ∙ ap (λ (n : ℕ). fault (λ k. get_or (drawing name rows) k 0) n 0 1 text) long
      ∙ agree (λ k. get_or (drawing name rows) k 0) (char_at name rows) (drawing_length (length name)) 0 1 text
      (λ k h. let none : 0 + k ≡ k = omega arith in rw none (placed k h))
