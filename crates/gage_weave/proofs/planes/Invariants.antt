-- `planes` meets its promise. The invariant: the bytes from block i on are in the planes. Assumes nothing.
use Rattle.std.proofs.Common.{◌≡◌, ◌*◌, take, drop}
use Rattle.gage_planes_spec.specs.Told.{LOW, planes_of}
use Rattle.gage_weave.proofs.planes.Given as goal

abbrev pub invariant-loop-i : goal.invariant-loop-i
invariant-loop-i l = l.q ≡ planes_of (drop (l.i * 8) (take LOW l.s))
