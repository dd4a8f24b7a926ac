-- `front_is` meets its promise. Assumes nothing.
use mathlib.Core.Path.{◌≡◌, ap, ◌∙◌}
use Prim.Native.Nat.{ℕ, ◌-◌}
use native.Mathlib.Omega.{arith}
use lib.ListN.{take}
use Rattle.base_lists.specs.Buffers.{same}
use Rattle.replay_call.proofs.front_is.Goals as goal

pub returns : goal.returns
returns c =
    let z : c.args.n - 0 ≡ c.args.n = omega arith in
    c.compare.ensures ∙ ap (λ (k : ℕ). same c.args.value.now (take k c.args.line.now)) z
