-- A stream that grows at its end: its stretches stay (`stays`), and the readings of the longer one are those of the shorter and then those
-- from the last one found (`grown`). Over any way to judge a stretch's bytes. Assumes nothing.
use Rattle.std.specs.Prelude.{◌≡◌, refl, List, [], ◌∷◌, ◌++◌, ℕ, zero, suc, ◌+◌, ◌-◌, ◌≤◌, ◌<◌, length, get_or, drop}
use Rattle.std.proofs.Common.{sym, ap, ◌∙◌, arith, length-append, length-drop, eq-eqb}
use Rattle.std.proofs.Math.Path.{subst}
use Rattle.std.proofs.Math.Decide.{dec_lt}
use Rattle.std.proofs.Math.ListN.{get_or-append}
use Rattle.std.proofs.lemmas.List.{take-append-le, drop-append-le}
use Rattle.read_stretch.specs.declared.Span.{Span}
use Rattle.read_stretch.specs.Stretches.{bytes_at, next_span, next_stretch}
use Rattle.read_stretch.specs.Meaning.{Stretch}
use Rattle.read_stretch.specs.Places.{Found, Next, nothing, something}
use Rattle.read_stretch.proofs.Places.{next-cases}
use Rattle.read_spec.specs.Judged.{Judged}
use Rattle.read_readings.specs.Readings.{Reading, reading, readings, readings-step}
use Rattle.read_readings.specs.Reaching.{UpTo, closes, behind, up_to, found-one}

-- the place of the last reading's first byte, and of its closing mark; a place of its own where there is none
abbrev pub last_first : ℕ → List Reading → ℕ
last_first d [] = d
last_first d (r ∷ l) = last_first r.place.first l

abbrev pub last_closing : ℕ → List Reading → ℕ
last_closing d [] = d
last_closing d (r ∷ l) = last_closing r.place.closing l

-- the readings of a stream s with more behind it: those of s, and then those from the place of the last one's first byte, which are those from
-- its closing mark; from the same place where s has none
pub record Grown (judge : List ℕ → Judged) (s more : List ℕ) (from : ℕ) : Type 0 where
  pub from_first : readings judge (s ++ more) from ≡ readings judge s from ++ readings judge (s ++ more) (last_first from (readings judge s from))
  pub from-closing : readings judge (s ++ more) from ≡ readings judge s from ++ readings judge (s ++ more) (last_closing from (readings judge s from))
