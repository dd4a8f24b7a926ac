-- The rule of a line as a statement on lists: a line is accepted exactly if each of its bytes is a digit, a symbol or the blank, and it is
-- the trade's line. Assumes nothing.
use Rattle.std.specs.Prelude.{◌≡◌, List, [], ◌∷◌, ℕ, ◌≤◌}
use Rattle.line_spec.specs.Lines.{first_digit, last_digit, transit, dash, blank}

-- a listed byte
pub data Listed (b : ℕ) : Type 0 where
  a-digit : first_digit ≤ b → b ≤ last_digit → Listed b
  a-symbol : transit ≤ b → b ≤ dash → Listed b
  a-blank : b ≡ blank → Listed b

-- a line of listed bytes
abbrev pub AllListed : List ℕ → Type 0
AllListed [] = Unit {0}
AllListed (b ∷ s) = Listed b × AllListed s
