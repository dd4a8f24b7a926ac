-- `is_permitted` meets its promise. The invariant: n is permitted where it is among the sizes that are left. Assumes nothing.
use Rattle.std.proofs.Common.{◌≡◌, drop}
use Rattle.gage_spec.specs.Permutation.{sizes, among, permitted}
use Rattle.gage_spec.proofs.is_permitted.Given as goal

abbrev pub invariant-loop-size : goal.invariant-loop-size
invariant-loop-size l = among l.n (drop l.size-index sizes) ≡ permitted l.n
