-- `glyphs_from` meets its promise. The invariant: the glyphs from the place reached decide, i characters passed. Assumes nothing.
use mathlib.Core.Path.{◌≡◌}
use Prim.Native.Nat.{◌+◌, ◌*◌}
use lib.ListN.{drop}
use Rattle.bundle_spec.specs.Bundles.{characters, rows_of}
use Rattle.bundle_spec.specs.Lengths.{glyph_field}
use Rattle.bundle_read.specs.Answers.{is_rows}
use Rattle.bundle_read.proofs.glyphs_from.Given as goal

abbrev pub invariant-loop-i : goal.invariant-loop-i
invariant-loop-i l = is_rows (rows_of (drop l.i characters) (drop (l.from + glyph_field * l.i) l.b)) ≡ is_rows (rows_of characters (drop l.from l.b))
