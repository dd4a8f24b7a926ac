-- The buyer's demand 3, second half, for a press that reads from the start of the stream to its end, from the promises alone: every line
-- that a write call made, and whose edition and calls of the permutation are allowed, is given by one of its calls. Assumes nothing.
use Rattle.std.specs.Prelude.{◌≡◌, false, ℕ}
use mathlib.Core.List.{List, ◌∷◌, ◌++◌}
use Rattle.read_spec.specs.Judged.{Label}
use Rattle.demand_reading.specs.Promises.{Seen}

-- what is seen of a line given from place p up to place q
abbrev pub given : ℕ → ℕ → Label → List ℕ → ℕ → Seen
given p q b L k = record { number = 0; ended = false; first = p; closing = q; calls = k; edition = b.edition; job = b.job; line = L }

-- it is seen by some call
abbrev pub SeenGiven : ℕ → ℕ → Label → List ℕ → ℕ → List Seen → Type 0
SeenGiven p q b L k seen = (before after : List Seen) × (seen ≡ before ++ (given p q b L k ∷ after))
