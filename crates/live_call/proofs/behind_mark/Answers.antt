-- `behind_mark` meets its promise. Assumes nothing.
use mathlib.Core.Path.{ap}
use Prim.Native.Nat.{ℕ, ◌+◌}
use Rattle.live_spec.specs.Taking.{numbers, behind_mark}
use Rattle.live_call.proofs.behind_mark.Goals as goal

pub returns : goal.returns
unfolding behind_mark
returns c =
    let n = c.args.n in
    ap (λ (m : ℕ). numbers (n.received + 1) 1 m (n.received + 1)) c.first_mark.ensures
