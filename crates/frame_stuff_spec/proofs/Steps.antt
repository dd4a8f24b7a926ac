-- The two rules of specs/Rules.antt count no more than the stretch is long. Assumes nothing.
use Rattle.std.specs.Prelude.{Some, None, Option}
use mathlib.Core.Path.{◌≡◌}
use mathlib.Core.List.{List, [], ◌∷◌}
use mathlib.Core.Bool.{Bool, true, false, cond}
use Prim.Native.Nat.{ℕ, suc, ◌≤◌}
use native.Mathlib.Omega.{arith}
use lib.Dec.{eqb}
use lib.ListN.{length}
use Rattle.frame_stuff_spec.specs.Stuffing.{mark, escape}
use Rattle.frame_stuff_spec.specs.Rules.{one_more, AtMost, stands, length_outside, length_inside}

more-at-most : (c : Option ℕ) (k : ℕ) → AtMost k c → AtMost (suc k) (one_more c)
more-at-most (Some n) k h = omega arith
more-at-most None k h = tt

raise : (c : Option ℕ) (j k : ℕ) → j ≤ k → AtMost j c → AtMost k c
raise (Some n) j k l h = omega arith
raise None j k l h = tt

either : (t : Bool) (c d : Option ℕ) (k : ℕ) → AtMost k c → AtMost k d → AtMost k (cond t c d)
either true c d k x y = x
either false c d k x y = y

-- no count is above the length
mutual
  unfolding length_outside

  outside-at-most : (s : List ℕ) → AtMost (length s) (length_outside s)
  outside-at-most [] = omega arith
  outside-at-most (b ∷ s) =
      either (eqb b mark) _ _ _ tt
      (either (eqb b escape) _ _ _ (raise (length_inside s) (length s) (suc (length s)) (omega arith) (inside-at-most s))
      (more-at-most (length_outside s) (length s) (outside-at-most s)))

  inside-at-most : (s : List ℕ) → AtMost (length s) (length_inside s)
  inside-at-most [] = tt
  inside-at-most (b ∷ s) = either (stands b) _ _ _ (more-at-most (length_outside s) (length s) (outside-at-most s)) tt

-- what the rule outside an escape counts can have one added
pub outside-within : (c : Option ℕ) (s : List ℕ) (k : ℕ) → c ≡ length_outside s → length s ≤ k → AtMost k c
outside-within c s k e h = rw e (raise (length_outside s) (length s) k h (outside-at-most s))
