-- A text written over a buffer piece by piece. Assumes nothing.
use mathlib.Core.Path.{◌≡◌, sym, ap, ◌∙◌}
use mathlib.Core.List.{List, ◌++◌, append_assoc}
use Prim.Native.Nat.{ℕ, ◌+◌, ◌-◌}
use native.Mathlib.Omega.{arith}
use lib.ListN.{length, take, drop, length-append}
use lib.Seq.{take_at, drop_at, drop-drop}
use Rattle.base_lists.specs.Buffers.{over}

-- one piece x more, behind what was written
over-split : (w x o : List ℕ) → over (w ++ x) o ≡ w ++ (x ++ drop (length x) (drop (length w) o))
over-split w x o =
    ap (λ (l : List ℕ). (w ++ x) ++ l) (rw (length-append w x, sym (drop-drop (length x) (length w) o))) ∙ append_assoc w x
    (drop (length x) (drop (length w) o))

-- the buffer with a piece x put in its part, at the place where the text so far ends
pub written : (w x o out : List ℕ) (at end : ℕ) → out ≡ over w o → length w ≡ at → at + length x ≡ end
    → take at out ++ (x ++ drop (end - at) (drop at out)) ≡ over (w ++ x) o
written w x o out at end e l k =
    let rest : List ℕ = drop (length w) o in
    let front : take at out ≡ w = ap (λ (b : List ℕ). take at b) e ∙ take_at w rest at l in
    let behind : drop at out ≡ rest = ap (λ (b : List ℕ). drop at b) e ∙ drop_at w rest at l in
    let size : end - at ≡ length x = omega arith in
    rw (front, behind, size) (sym (over-split w x o))
