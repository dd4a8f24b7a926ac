-- `absorb_last` meets its promise: the padded rest, cut to the rate, is one block more. Assumes nothing.
use Rattle.digest_sponge.proofs.Taking.{last_taken}
use Rattle.digest_sponge.proofs.Sponge.absorb_last.Goals as goal

pub returns : goal.returns
returns c =
    last_taken c.args.rest.now c.args.s _ _
    c.args.self.fits c.last_block-last.ensures c.mix.ensures.bytes
    c.turned.ensures
