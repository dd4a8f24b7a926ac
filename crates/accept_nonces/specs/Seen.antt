-- Whether two numbers stand at one place of two lists. Assumes nothing: these are definitions.
use Rattle.std.specs.Prelude.{Bool, true, false, cond, List, ℕ, zero, suc, ◌+◌, eqb, ltb, length, get_or}

-- at place i; past the end of either list nothing does
unfoldable pub pair_at : List ℕ → List ℕ → ℕ → ℕ → ℕ → Bool
pair_at highs lows high low i =
    cond (ltb i (length highs)) (cond (ltb i (length lows)) (cond (eqb (get_or highs i 0) high) (eqb (get_or lows i 0) low) false) false) false

-- at one of n places from place i on
unfoldable pub pair_in : List ℕ → List ℕ → ℕ → ℕ → ℕ → ℕ → Bool
pair_in highs lows high low i zero = false
pair_in highs lows high low i (suc n) = cond (pair_at highs lows high low i) true (pair_in highs lows high low (i + 1) n)
