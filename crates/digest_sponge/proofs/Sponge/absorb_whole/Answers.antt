use Rattle.std.proofs.Common.{◌≡◌, ◌+◌, ◌∷◌, [], ◌++◌, ◌∙◌, length, length-append, arith}
use Rattle.digest_sponge.proofs.Taking.{taken_none, taken_more, taken-all}
use Rattle.digest_sponge.proofs.Sponge.absorb_whole.Goals as goal

pub loop-block-init : goal.loop-block-init
loop-block-init c =
    let all : c.into_iter-block-iterator.result.rest.now ≡ c.args.message.now = cc in
    record { cut = cc; taken = rw all (taken_none c.args.message.now c.args.s c.args.self.fits) }

pub loop-block-preserved : goal.loop-block-preserved
loop-block-preserved c =
    let at = c.loop-block.invariant in
    let step = c.in-Some.ensures.steps in
    let next : length (c.loop-block.yielded ++ c.in-Some.block ∷ []) ≡ length c.loop-block.yielded + 1 = length-append _ _ in
    record {
      cut = step.0 ∙ at.cut;
      taken = rw next (taken_more _ _ at.taken step.1.0 (step.1.1 ∙ at.cut) c.mix.ensures.bytes c.turned-state.ensures);
    }

pub returns : goal.returns
returns c = taken-all c.loop-block.invariant.taken (omega (arith, c.in-None.ensures.steps.1.0))
