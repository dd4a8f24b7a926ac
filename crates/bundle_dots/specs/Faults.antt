-- The row of a text that is not as a rule for its places says. Assumes nothing: these are definitions.
use Rattle.std.specs.Prelude.{cond, List, [], ◌∷◌, ℕ, zero, suc, ◌+◌, eqb}
use Rattle.bundle_dots.specs.Lines.{newline}

-- the row of a text, from 1, behind a character of it
abbrev pub next_row : ℕ → ℕ → ℕ
next_row row c = cond (eqb c newline) (row + 1) row

-- the text from place i on, in this row, held to what a rule says of the places that are left: the row of the first that is not the same, or
-- where the text ends too soon or goes on; 0 where there is no such row
unfoldable pub fault : (ℕ → ℕ) → ℕ → ℕ → ℕ → List ℕ → ℕ
fault f zero i row [] = zero
fault f zero i row (b ∷ s) = row
fault f (suc left) i row [] = row
fault f (suc left) i row (b ∷ s) = cond (eqb b (f i)) (fault f left (i + 1) (next_row row b) s) row
