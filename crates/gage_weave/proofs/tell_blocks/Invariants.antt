-- `tell_blocks` meets its promise. The invariant: the first i blocks are told. Assumes nothing.
use Rattle.std.proofs.Common.{◌≡◌, ◌*◌}
use Rattle.base_lists.specs.Buffers.{over}
use Rattle.gage_planes_spec.specs.Told.{told}
use Rattle.gage_weave.proofs.tell_blocks.Given as goal

abbrev pub invariant-loop-i : goal.invariant-loop-i
invariant-loop-i l = l.out ≡ over (told (l.i * 8) l.t) l.initial.out
