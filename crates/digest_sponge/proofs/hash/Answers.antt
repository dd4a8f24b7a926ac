-- `hash` meets its promise: the message taken up, and then the outputs. Assumes nothing.
use Rattle.std.proofs.Common.{◌≡◌, true}
use Rattle.digest_spec.specs.Instances.{unknown}
use Rattle.digest_sponge.specs.Parts.{hash_of}
use Rattle.digest_sponge.proofs.Parting.{message-hashed}
use Rattle.digest_sponge.proofs.hash.Goals as goal

pub returns-in_default : goal.returns-in_default
unfolding hash_of
returns-in_default c =
    let none : unknown c.args.instance ≡ true = rw c.in_default.is at c.of.ensures in
    rw none

pub returns : goal.returns
returns c =
    let e = c.in-Some.ensures in
    message-hashed c.args.instance e.0 (e.1, e.2, e.3) c.args.message.now c.absorb-s.result c.absorb-s.ensures c.squeeze.ensures
