-- `sponge_of` meets its promise: the table's row of a known instance. Assumes nothing.
use Rattle.std.proofs.Common.{◌≡◌, true}
use Rattle.digest_spec.specs.Instances.{unknown}
use Rattle.digest_sponge.specs.Parts.{sponge_of}
use Rattle.digest_sponge.proofs.sponge_of.Goals as goal

pub returns-in_default : goal.returns-in_default
unfolding sponge_of
returns-in_default c =
    let none : unknown c.args.instance ≡ true = rw c.in_default.is at c.of.ensures in
    rw none

pub returns : goal.returns
unfolding sponge_of
returns c =
    let e = c.in-Some.ensures in
    rw e.0 (λ i. record { size = e.1 i; rate = e.2 i; outputs = e.3 i })
