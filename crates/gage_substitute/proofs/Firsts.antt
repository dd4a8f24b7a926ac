-- The first n bytes of a state, where n may be more than a state has, and worked on in a wide one. Assumes nothing.
use mathlib.Core.Path.{◌≡◌, ap, ◌∙◌}
use mathlib.Core.List.{List, ◌++◌}
use Prim.Native.Nat.{ℕ, ◌≤◌, min}
use native.Mathlib.Decide.{dec_lt}
use native.Mathlib.Omega.{arith}
use lib.ListN.{length, take, drop, drop_of_length-le, length-take}
use lib.Seq.{take_all, take-append-le, length-take-le}
use Rattle.base_lists.specs.Buffers.{over, copied}
use Rattle.gage_cells.specs.Sizes.{LARGEST}
use Rattle.gage_cells.specs.Cells.{on_first}

pub first-within : (f : List ℕ → List ℕ) (n : ℕ) (s : List ℕ) → length s ≡ LARGEST → on_first (min n LARGEST) f s ≡ on_first n f s
first-within f n s e = elim (dec_lt LARGEST n) [
  | yes h ↦
      let m : min n LARGEST ≡ LARGEST = omega arith in
      rw (
        m,
        take_all LARGEST s (omega arith),
        take_all n s (omega arith),
        drop_of_length-le s {i = LARGEST} (omega arith),
        drop_of_length-le s {i = n} (omega arith),
      )
  | no h ↦ let m : min n LARGEST ≡ n = omega arith in rw m
]

-- m bytes of a state s copied to w, changed by f to those of out, and put back to r
module _ (f : List ℕ → List ℕ) (keeps : (x : List ℕ) → length (f x) ≡ length x) (n m : ℕ) (s o : List ℕ) (long : length s ≡ LARGEST)
    (room : LARGEST ≤ length o) (within : m ≡ min n LARGEST) where
  put_back : over (f (take m s)) s ≡ on_first m f s
  put_back =
      let l : m ≤ length s = omega arith in
      ap (λ (k : ℕ). f (take m s) ++ drop k s) (keeps (take m s) ∙ length-take-le m s l)

  pub put_first : (w out r : List ℕ) → w ≡ copied s o → take m out ≡ f (take m w) → r ≡ copied (take m out) s → r ≡ on_first n f s
  put_first w out r e h g =
      let l : m ≤ length s = omega arith in
      let same : take m w ≡ take m s = rw (e, take_all (length o) s (omega arith)) (take-append-le m s (drop (length s) o) l) in
      let short : length (take m out) ≤ length s = rw h (omega (arith, keeps (take m w), length-take m w)) in
      g ∙ rw (take_all (length s) (take m out) short, h, same) (put_back ∙ rw within (first-within f n s long))
