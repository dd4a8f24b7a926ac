-- `digest_font` meets its promise: a load that stands in the buffer ends within it. Assumes nothing.
use Rattle.tool_files.specs.Held.{held-within}
use mathlib.Core.Path.{sym}
use native.Mathlib.Omega.{arith}
use Rattle.tool_key_font.proofs.digest_font.Goals as goal

pub slice_bounds-digest-end : goal.slice_bounds-digest-end
slice_bounds-digest-end c = omega (arith, held-within _ _ _ (sym c.in-Ok.ensures))
