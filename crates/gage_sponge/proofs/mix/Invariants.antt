-- `mix` meets its promise. The invariant: the first i bytes of the block are XORed into the state. Assumes nothing.
use Rattle.std.proofs.Common.{◌≡◌, take}
use Rattle.gage_sponge.specs.Absorbing.{xored}
use Rattle.gage_sponge.proofs.mix.Given as goal

abbrev pub invariant-loop-i : goal.invariant-loop-i
invariant-loop-i l = l.out ≡ xored (take l.i l.block) l.initial.out
