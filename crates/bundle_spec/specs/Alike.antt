-- `alike` says exactly that two of the fourteen glyphs have the same dots. Assumes nothing.
use Rattle.std.specs.Prelude.{◌≡◌, refl, Bool, true, false, cond, ◌↔◌, List, [], ◌∷◌, ℕ, zero, suc, ◌*◌, ◌<◌, ◌+◌, length, get_or, take, drop}
use Rattle.std.proofs.Common.{sym, ◌∙◌, suc-le-suc, not-suc-le-zero, le_of_suc-le-suc, arith, drop-drop}
use Rattle.base_lists.specs.Never.{never}
use Rattle.base_lists.specs.Buffers.{same}
use Rattle.base_lists.specs.Sameness.{same_refl, same-eq}
use Rattle.bundle_spec.specs.Bundles.{glyph_rows, glyph_count, glyphs_of, among, repeated, alike}

-- the rows of glyph i
abbrev pub glyph : List ℕ → ℕ → List ℕ
glyph rows i = take glyph_rows (drop (glyph_rows * i) rows)

-- two of these are the same
pub record Pair (gs : List (List ℕ)) : Type 0 where
  pub first : ℕ
  pub second : ℕ
  pub order : first < second
  pub inside : second < length gs
  pub equal : get_or gs first [] ≡ get_or gs second []

-- two glyphs with the same dots
pub record Alike (rows : List ℕ) : Type 0 where
  pub first : ℕ
  pub second : ℕ
  pub order : first < second
  pub inside : second < glyph_count
  pub equal : glyph rows first ≡ glyph rows second
