-- `alike_from` meets its promise. The invariant: those from the place reached decide. Assumes nothing.
use mathlib.Core.Path.{◌≡◌}
use Prim.Native.Nat.{◌+◌, ◌-◌, ◌*◌}
use lib.ListN.{drop}
use Rattle.bundle_spec.specs.Bundles.{glyph_count, repeated}
use Rattle.bundle_spec.specs.Lengths.{glyph_field}
use Rattle.bundle_spec.specs.Places.{glyphs_at}
use Rattle.bundle_read.proofs.alike_from.Given as goal

abbrev pub invariant-loop-i : goal.invariant-loop-i
invariant-loop-i l =
    repeated (glyphs_at (glyph_count - l.i) (drop (l.from + glyph_field * l.i) l.b)) ≡ repeated (glyphs_at glyph_count (drop l.from l.b))
