-- `close` meets its promise: the last block, and then the outputs. Assumes nothing.
use Rattle.std.proofs.Common.{◌≡◌, true}
use Rattle.digest_spec.specs.Instances.{unknown}
use Rattle.digest_sponge.specs.Parts.{closed_by}
use Rattle.digest_sponge.proofs.Parting.{rest-closed}
use Rattle.digest_sponge.proofs.close.Goals as goal

pub returns-in_default : goal.returns-in_default
unfolding closed_by
returns-in_default c =
    let none : unknown c.args.instance ≡ true = rw c.in_default.is at c.of.ensures in
    rw none

pub returns : goal.returns
returns c =
    let e = c.in-Some.ensures in
    rest-closed c.args.instance e.0 (e.1, e.2, e.3) c.args.s c.args.rest.now c.woven.result c.absorb_last-state.result c.woven.ensures
    c.absorb_last-state.ensures c.squeeze.ensures
