-- The bytes of the next stretch are those that stand at its places, for whoever knows the places. Assumes nothing.
use Rattle.std.specs.Prelude.{◌≡◌, List, ℕ}
use Rattle.std.proofs.Common.{ap}
use Rattle.read_stretch.specs.declared.Span.{Span}
use Rattle.read_stretch.specs.Stretches.{next_span, bytes_at, next_stretch}

pub next-bytes : (s : List ℕ) (from : ℕ) (p : Span) → next_span s from ≡ p → next_stretch s from ≡ bytes_at s p
unfolding next_stretch
next-bytes s from p e = ap (bytes_at s) e
