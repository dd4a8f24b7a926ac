-- `made` meets its promise. The invariant: the name and the first i glyphs are laid from the room's start. Assumes nothing.
use mathlib.Core.Path.{◌≡◌}
use lib.ListN.{length, replicate}
use Rattle.base_fields.specs.Laying.{Laid}
use Rattle.bundle_spec.specs.Lengths.{longest_bundle}
use Rattle.bundle_write.proofs.Making.{so_far}
use Rattle.bundle_write.proofs.made.Given as goal

abbrev pub invariant-loop-i : goal.invariant-loop-i
invariant-loop-i l = (length l.bundle ≡ longest_bundle) × Laid (replicate longest_bundle 0) l.bundle (so_far l.name l.rows l.i) l.at
