-- `put` meets its promise. The invariant: the first r bytes are stored. Assumes nothing.
use Rattle.std.proofs.Common.{◌*◌, ◌/◌, ◌%◌, ◌^◌}
use Rattle.base_lists.specs.Upto.{Upto}
use Rattle.gage_weave.proofs.put.Given as goal

abbrev pub invariant-loop-r : goal.invariant-loop-r
invariant-loop-r l = Upto (λ i. l.x / 2 ^ (8 * i) % 256) l.out l.r
