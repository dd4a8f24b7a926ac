-- The name of a bundle is no longer than the longest. Assumes nothing.
use mathlib.Core.Path.{sym, ◌∙◌}
use Rattle.bundle_read.proofs.Exactly.{read_length}
use Rattle.bundle_write.proofs.rows_part.Goals as goal

pub glyph_part-requires : goal.glyph_part-requires
glyph_part-requires c = (read_length c.args.bundle.now _ (sym c.read.ensures ∙ c.in-Ok.is)).1
