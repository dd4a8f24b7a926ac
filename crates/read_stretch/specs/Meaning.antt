-- What the next stretch means: the first whose opening mark stands at the place asked for or later, and the end where there is none.
-- Assumes nothing.
use Rattle.std.specs.Prelude.{◌≡◌, List, ℕ, ◌-◌, ◌≤◌, ◌<◌, length, get_or}
use Rattle.frame_stuff_spec.specs.Stuffing.{mark}
use Rattle.read_stretch.specs.declared.Span.{Span}
use Rattle.read_stretch.specs.Stretches.{span}

-- no mark from place a up to, not including, place e
abbrev pub NoMark : List ℕ → ℕ → ℕ → Type 0
NoMark s a e = (k : ℕ) → a ≤ k → k < e → get_or s k 0 ≡ mark → ⊥

-- a stretch: the non-empty run from place a up to place e between two neighbouring marks
pub record Stretch (s : List ℕ) (a e : ℕ) : Type 0 where
  pub behind : 0 < a
  pub opens : get_or s (a - 1) 0 ≡ mark
  pub some : a < e
  pub ends : e < length s
  pub closes : get_or s e 0 ≡ mark
  pub clear : NoMark s a e

-- p is the first stretch whose first byte stands at place a or later, or the end
pub data FirstFrom (s : List ℕ) (a : ℕ) (p : Span) : Type 0 where
  none : p ≡ span (length s) (length s) → ((b e : ℕ) → a ≤ b → Stretch s b e → ⊥) → FirstFrom s a p
  found : Stretch s p.first p.closing → a ≤ p.first → ((b e : ℕ) → a ≤ b → Stretch s b e → p.first ≤ b) → FirstFrom s a p
