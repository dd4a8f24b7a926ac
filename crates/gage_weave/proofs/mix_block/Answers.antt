use mathlib.Core.Path.{ap, ◌∙◌}
use lib.Bits.{bit_xor}
use Rattle.gage_planes_spec.specs.declared.State.{State}
use Rattle.gage_planes_spec.specs.Told.{xor_planes, mixed}
use Rattle.gage_planes_spec.specs.Exact.{same-states}
use Rattle.gage_weave.proofs.mix_block.Goals as goal

-- src/lib.rt:171:1
pub returns : goal.returns
unfolding mixed
returns c =
    let t = c.args.t in
    let weave = c.weave-w.ensures in
    same-states (c.xor_planes-low.ensures ∙ ap (λ (w : State). xor_planes w.low t.low) weave)
    (ap (λ (w : State). bit_xor w.rest t.rest) weave)
