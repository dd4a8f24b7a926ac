-- The places of the next stretch: in order and within the stream, both the stream's length exactly where there is no stretch, and
-- else between two marks with no mark between. Assumes nothing.
use Rattle.std.specs.Prelude.{◌≡◌, List, ℕ, ◌≤◌, ◌<◌, length}
use Rattle.read_stretch.specs.declared.Span.{Span}
use Rattle.read_stretch.specs.Stretches.{span}
use Rattle.read_stretch.specs.Meaning.{Stretch}

-- places of a stream of n bytes
pub record Within (n : ℕ) (p : Span) : Type 0 where
  pub order : p.first ≤ p.closing
  pub inside : p.closing ≤ n

-- no stretch opens at `from` or later
abbrev pub NoneFrom : List ℕ → ℕ → Type 0
NoneFrom s from = (b e : ℕ) → from < b → Stretch s b e → ⊥

-- a stretch that opens at `from` or later, before any other that does
pub record Found (s : List ℕ) (from : ℕ) (p : Span) : Type 0 where
  pub stretch : Stretch s p.first p.closing
  pub later : from < p.first
  pub least : (b e : ℕ) → from < b → Stretch s b e → p.first ≤ b

-- the two cases
pub data Next (s : List ℕ) (from : ℕ) (p : Span) : Type 0 where
  nothing : p ≡ span (length s) (length s) → NoneFrom s from → Next s from p
  something : Found s from p → Next s from p
