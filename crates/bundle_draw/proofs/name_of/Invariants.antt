-- `name_of` meets its promise. The invariant: the first i bytes are those that the text draws (`Upto`). Assumes nothing.
use mathlib.Core.Path.{◌≡◌}
use lib.ListN.{length}
use Rattle.base_lists.specs.Upto.{Upto}
use Rattle.bundle_spec.specs.Bundles.{longest_name}
use Rattle.bundle_draw.specs.Making.{name_byte}
use Rattle.bundle_draw.proofs.name_of.Given as goal

abbrev pub invariant-loop-i : goal.invariant-loop-i
invariant-loop-i l = (length l.name ≡ longest_name) × Upto (name_byte l.text) l.name l.i
