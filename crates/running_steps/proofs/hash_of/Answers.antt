-- `hash_of` meets its promise: it closes with the bytes held. Assumes nothing.
use mathlib.Core.Path.{◌≡◌, ◌∙◌}
use Prim.Native.Nat.{◌-◌}
use native.Mathlib.Omega.{arith}
use Rattle.running_steps.proofs.hash_of.Goals as goal

pub returns : goal.returns
returns c = let none : c.args.held - 0 ≡ c.args.held = omega arith in c.close.ensures ∙ rw none
