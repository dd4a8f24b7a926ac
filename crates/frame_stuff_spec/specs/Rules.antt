-- The unstuffed length of a stretch by two rules that hand over to each other, one outside an escape and one inside it,
-- on ever shorter remainders (document 01, 'A frame and a stream'). Assumes nothing: these are definitions.
use Rattle.std.specs.Prelude.{Bool, true, cond, List, [], ◌∷◌, ℕ, ◌+◌, ◌≤◌, eqb, Some, None, Option}
use Rattle.frame_stuff_spec.specs.Stuffing.{mark, escape, escaped_mark, escaped_escape}

-- one byte more
abbrev pub one_more : Option ℕ → Option ℕ
one_more (Some n) = Some (n + 1)
one_more None = None

-- whether a byte stands for one inside an escape: only 5E and 5D do
abbrev pub stands : ℕ → Bool
stands b = cond (eqb b escaped_mark) true (eqb b escaped_escape)

unfoldable mutual
  -- outside an escape: a mark is bad stuffing
  pub length_outside : List ℕ → Option ℕ
  length_outside [] = Some 0
  length_outside (b ∷ s) = cond (eqb b mark) None (cond (eqb b escape) (length_inside s) (one_more (length_outside s)))

  -- inside an escape: a byte that stands for one must follow
  pub length_inside : List ℕ → Option ℕ
  length_inside [] = None
  length_inside (b ∷ s) = cond (stands b) (one_more (length_outside s)) None

-- a count of at most k
abbrev pub AtMost : ℕ → Option ℕ → Type 0
AtMost k (Some n) = n ≤ k
AtMost k None = Unit {0}
