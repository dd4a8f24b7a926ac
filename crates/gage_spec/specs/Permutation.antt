-- The round permutation of document 000, section 1.1.2 (Algorithm 2), its inverse, and what the public calls answer
-- (document 01, 'The permutation'; order W9). Size and rounds are parameters. Assumes nothing: these are definitions.
use Rattle.std.specs.Prelude.{ℕ, Bool, true, false, cond, List, [], ◌∷◌, ◌++◌, eqb, take, drop, Ok, Err, Result, ⊤}
pub use Rattle.gage_cells.specs.Sizes.{LARGEST}
pub use Rattle.gage_leaders.specs.Leaders.{MOST-ROUNDS, counted}
unfoldable pub use Rattle.gage_leaders.specs.Leaders.{leaders}
use Rattle.gage_cells.specs.Cells.{table, substitute, restore}
use Rattle.gage_shuffle.specs.Shuffling.{shuffle, unshuffle}
use Rattle.gage_spec.specs.declared.PermuteRefusal.{PermuteRefusal}
use Rattle.gage_spec.specs.declared.PermuteRefusal.TheVariants.{Size, Rounds}
use Rattle.gage_spec.specs.declared.Permuted.{Permuted}

-- ROUNDS of document 000, section 1.1.2: what the digest and the cipher are built on
abbrev pub ROUNDS : ℕ
ROUNDS = 32

-- Algorithm 2, the loop: shuffle and substitute, once for each leader left
unfoldable pub turns : List ℕ → List ℕ → List ℕ
turns [] s = s
turns (l ∷ ls) s = turns ls (substitute table l (shuffle s))

-- Algorithm 2 with the leaders ls: the first substitutes without a shuffle before it
unfoldable pub permute_by : List ℕ → List ℕ → List ℕ
permute_by [] s = s
permute_by (l ∷ ls) s = turns ls (substitute table l s)

-- Algorithm 2 with k rounds: leaders 0 to k - 1 (leader k is not read)
unfoldable pub permute : ℕ → List ℕ → List ℕ
permute k s = permute_by (take k leaders) s

-- the inverse: the last turn is undone first
unfoldable pub unturns : List ℕ → List ℕ → List ℕ
unturns [] s = s
unturns (l ∷ ls) s = unshuffle (restore table l (unturns ls s))

unfoldable pub unpermute_by : List ℕ → List ℕ → List ℕ
unpermute_by [] s = s
unpermute_by (l ∷ ls) s = restore table l (unturns ls s)

unfoldable pub unpermute : ℕ → List ℕ → List ℕ
unpermute k s = unpermute_by (take k leaders) s

-- the permitted state sizes in bytes: document 01's, and order W8's 64
abbrev pub sizes : List ℕ
sizes = 29 ∷ 30 ∷ 32 ∷ 34 ∷ 36 ∷ 40 ∷ 48 ∷ 64 ∷ 68 ∷ 72 ∷ []

unfoldable pub among : ℕ → List ℕ → Bool
among n [] = false
among n (x ∷ xs) = cond (eqb n x) true (among n xs)

unfoldable pub permitted : ℕ → Bool
permitted n = among n sizes

-- document 01, 'Numbers returned', and order W9
abbrev pub judged_number : Result ⊤ PermuteRefusal → ℕ
judged_number (Ok tt) = 0
judged_number (Err Size) = 1
judged_number (Err Rounds) = 18

-- the size is judged first
unfoldable pub judged : ℕ → ℕ → Result ⊤ PermuteRefusal
judged n k = cond (permitted n) (cond (counted k) (Ok tt) (Err Rounds)) (Err Size)

-- what there is after an answer: the new where it is done, else the old as it was
abbrev pub after : {A : Type 0} → Result ⊤ PermuteRefusal → A → A → A
after (Ok tt) new old = new
after (Err f) new old = old

-- f with k rounds on the first n bytes
unfoldable pub answered : (ℕ → List ℕ → List ℕ) → List ℕ → ℕ → ℕ → Permuted
answered f s n k = record { answer = judged n k; state = after (judged n k) (f k (take n s) ++ drop n s) s }
