-- `woven` meets its promise: the planes of the first bytes tell them. Assumes nothing.
use mathlib.Core.Path.{◌≡◌, refl, ap, ◌∙◌}
use Prim.Native.Nat.{◌-◌, ◌≤◌}
use lib.ListN.{length, take}
use lib.Seq.{length-take-le}
use Rattle.base_lists.specs.Below.{below-take}
use Rattle.gage_planes_spec.specs.Told.{told}
use Rattle.gage_planes_spec.specs.Bytes.{told-state}
use Rattle.gage_weave.specs.Arrays.{array-bytes}
use native.Mathlib.Omega.{arith}
use Rattle.digest_sponge.proofs.Taking.{size_room}
use Rattle.digest_sponge.proofs.Sponge.woven.Goals as goal

pub slice_bounds-weave-end : goal.slice_bounds-weave-end
slice_bounds-weave-end c = omega (arith, (size_room c.args.self.fits).1)

pub returns : goal.returns
returns c =
    let start = c in
    let s = start.args.s in
    let n = start.args.self.size in
    let z : n - 0 ≡ n = omega arith in
    let room : n ≤ 72 = (size_room c.args.self.fits).1 in
    let long : length (take n s) ≡ n = length-take-le n s (omega arith) in
    ap (told n) (c.weave.ensures ∙ rw z refl) ∙ told-state n (take n s) room long (below-take 256 n s (array-bytes 72 s _ start.well_formed.1.0))
