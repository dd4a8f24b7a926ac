-- `among_behind` meets its promise. The invariant: those from the place reached decide. Assumes nothing.
use mathlib.Core.Path.{◌≡◌}
use Prim.Native.Nat.{◌+◌, ◌-◌, ◌*◌}
use lib.ListN.{drop, take}
use Rattle.bundle_spec.specs.Bundles.{glyph_rows, among}
use Rattle.bundle_spec.specs.Lengths.{glyph_field}
use Rattle.bundle_spec.specs.Places.{rows_at, glyphs_at}
use Rattle.bundle_read.proofs.among_behind.Given as goal

abbrev pub invariant-loop-i : goal.invariant-loop-i
invariant-loop-i l =
    among (take glyph_rows (drop rows_at (drop l.g l.b))) (glyphs_at (l.count - l.i) (drop (l.from + glyph_field * l.i) l.b))
    ≡ among (take glyph_rows (drop rows_at (drop l.g l.b))) (glyphs_at l.count (drop l.from l.b))
