use Rattle.std.proofs.Common.{length, refl, ◌∙◌, add-one, take_all, arith, rules}
use Rattle.std.proofs.Math.Decide.{dec_le}
use Rattle.std.proofs.lemmas.Nat.{xor_comm}
use Rattle.gage_sponge.specs.Absorbing.{xored}
use Rattle.gage_sponge.specs.Xor.{xored-more, xored-past}
use Rattle.gage_sponge.proofs.mix.Goals as goal

pub loop-i-init : goal.loop-i-init
unfolding xored
loop-i-init c = refl

pub loop-i-preserved : goal.loop-i-preserved
loop-i-preserved c = rw (xor_comm, c.loop-i.invariant, add-one) (xored-more _ _ c.loop-i.i (omega arith) (search rules))

pub returns : goal.returns
returns c =
    elim (dec_le (length c.args.block.now) c.loop-i.i) [
      | yes p ↦ c.loop-i.invariant ∙ rw (take_all c.loop-i.i c.args.block.now p)
      | no p ↦ c.loop-i.invariant ∙ xored-past _ _ c.loop-i.i (search rules)
    ]
