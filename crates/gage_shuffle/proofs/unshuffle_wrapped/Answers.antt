use Rattle.std.proofs.Common.{arith, rules}
use Rattle.base_lists.specs.Fill.{filled_none}
use Rattle.gage_shuffle.proofs.Wrapping.{unshuffle-long, unshuffle-more, unshuffle-all}
use Rattle.gage_shuffle.proofs.unshuffle_wrapped.Goals as goal

pub loop-i-init : goal.loop-i-init
loop-i-init c = filled_none _ _ (omega (arith, unshuffle-long c.args.s c.args.n (search rules) (search rules)))

pub loop-i-preserved : goal.loop-i-preserved
loop-i-preserved c = unshuffle-more _ _ (search rules) (search rules) _ _ _ _ c.wrapped-e.ensures c.loop-i.invariant
    (search rules) c.give_back.ensures

pub returns : goal.returns
returns c = unshuffle-all c.args.s c.args.n (search rules) (search rules) _ _ c.loop-i.invariant
    (search rules)
