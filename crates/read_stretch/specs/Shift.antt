-- The next stretch depends on the bytes from the place on and on nothing before, and a frame that opens there is the next stretch.
-- Assumes nothing.
use Rattle.std.specs.Prelude.{◌≡◌, List, ℕ, ◌+◌, ◌-◌, ◌≤◌, length, drop}
use Rattle.read_stretch.specs.declared.Span.{Span}
use Rattle.read_stretch.specs.Stretches.{span, next_span, next_stretch}

-- places d further on
abbrev pub moved : ℕ → Span → Span
moved d p = span (p.first + d) (p.closing + d)

-- two places of two streams from which the same bytes follow
pub record Alike (x : List ℕ) (i : ℕ) (y : List ℕ) (j : ℕ) : Type 0 where
  pub in-x : i ≤ length x
  pub in-y : j ≤ length y
  pub rest : drop i x ≡ drop j y

-- the same next stretch at the same places counted from there, and its closing marks are such places again
pub record NextAlike (x : List ℕ) (i : ℕ) (y : List ℕ) (j : ℕ) : Type 0 where
  pub first : (next_span x i).first - i ≡ (next_span y j).first - j
  pub closing : (next_span x i).closing - i ≡ (next_span y j).closing - j
  pub bytes : next_stretch x i ≡ next_stretch y j
  pub on : Alike x (next_span x i).closing y (next_span y j).closing
