-- A sum of bits, each with its weight, from the left is the definition's sum from the right. Assumes nothing.
use mathlib.Core.Path.{◌≡◌, ◌∙◌}
use mathlib.Core.List.{[], ◌∷◌}
use Prim.Native.Nat.{ℕ, ◌+◌, ◌*◌, ◌/◌, ◌%◌}
use native.Mathlib.Nat.{mul-one}
use native.Mathlib.Omega.{arith}
use lib.ListN.{get_or}
use Rattle.gage_shuffle.specs.Shuffling.{weights, weighed, returned}

-- the same sum from the right
from-right : (a b c d e f g h : ℕ) → a + b + c + d + e + f + g + h ≡ a + (b + (c + (d + (e + (f + (g + (h + 0)))))))
from-right a b c d e f g h = omega arith

-- the sum of the code is the definition's
pub returned-left : (a b c d e f g h : ℕ)
    → a / get_or weights 0 1 % 2 + b / get_or weights 1 1 % 2 * 2 + c / get_or weights 2 1 % 2 * 4 + d / get_or weights 3 1 % 2 * 8 + e / get_or weights 4 1 % 2 * 16 + f
    / get_or weights 5 1 % 2 * 32 + g / get_or weights 6 1 % 2 * 64 + h / get_or weights 7 1 % 2 * 128
    ≡ returned (a ∷ b ∷ c ∷ d ∷ e ∷ f ∷ g ∷ h ∷ [])
unfolding returned weighed
returned-left a b c d e f g h = from-right _ _ _ _ _ _ _ _ ∙ rw mul-one
