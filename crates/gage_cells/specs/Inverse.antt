-- Each of substitution and its inverse undoes the other, at every state size and for every leader (document 003, Corollary 1).
-- Assumes nothing.
use Rattle.std.specs.Prelude.{List, [], ◌∷◌, ℕ, ◌<◌}

-- cells that make whole bytes
abbrev pub Fours : List ℕ → Type 0
Fours [] = Unit {0}
Fours (a ∷ []) = ⊥
Fours (a ∷ b ∷ []) = ⊥
Fours (a ∷ b ∷ c ∷ []) = ⊥
Fours (a ∷ b ∷ c ∷ d ∷ r) = (a < 4) × (b < 4) × (c < 4) × (d < 4) × Fours r
