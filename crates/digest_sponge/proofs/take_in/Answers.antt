-- `take_in` meets its promise: the whole blocks, and the state's bytes over zeros. Assumes nothing.
use Rattle.std.proofs.Common.{◌≡◌, true, arith}
use Rattle.digest_spec.specs.Instances.{unknown}
use Rattle.digest_sponge.specs.Parts.{taken_in}
use Rattle.digest_sponge.proofs.Taking.{size_room}
use Rattle.digest_sponge.proofs.Parting.{part-taken}
use Rattle.digest_sponge.proofs.take_in.Goals as goal

pub returns-in_default : goal.returns-in_default
unfolding taken_in
returns-in_default c =
    let none : unknown c.args.instance ≡ true = rw c.in_default.is at c.of.ensures in
    rw none

pub slice_bounds-out-end : goal.slice_bounds-out-end
slice_bounds-out-end c = omega (arith, (size_room c.in-Some.sponge.fits).1)

pub returns : goal.returns
returns c =
    let e = c.in-Some.ensures in
    part-taken c.args.instance e.0 (e.1, e.2, e.3) c.args.s c.args.part.now c.woven.result c.absorb_whole-state.result c.woven.ensures
    c.absorb_whole-state.ensures c.tell.ensures
