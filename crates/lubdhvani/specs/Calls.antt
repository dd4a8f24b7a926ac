-- What the two C calls of the permutation answer: document 01's number, and the state lent. Assumes nothing: these are definitions.
use Rattle.std.specs.Prelude.{ℕ, List, length}
use Rattle.gage_spec.specs.Permutation.{judged_number, judged, after}

-- k rounds of the permutation on a state where it stands
unfoldable pub permute_number : ℕ → ℕ → ℕ
permute_number n k = judged_number (judged n k)

unfoldable pub permute_state : (ℕ → List ℕ → List ℕ) → List ℕ → ℕ → List ℕ
permute_state f s k = after (judged (length s) k) (f k s) s
