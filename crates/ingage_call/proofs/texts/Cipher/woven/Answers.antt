-- `woven` meets its promise: the planes of the first bytes tell them. Assumes nothing.
use mathlib.Core.Path.{◌≡◌, refl, ap, ◌∙◌}
use Prim.Native.Nat.{◌-◌}
use lib.ListN.{length, take}
use lib.Seq.{length-take-le}
use Rattle.base_lists.specs.Below.{below-take}
use Rattle.gage_planes_spec.specs.Told.{told}
use Rattle.gage_planes_spec.specs.Bytes.{told-state}
use Rattle.gage_weave.specs.Arrays.{array-bytes}
use native.Mathlib.Omega.{arith}
use borrow.Author.Rules.{rules}
use Rattle.ingage_call.proofs.texts.Cipher.woven.Goals as goal

pub returns : goal.returns
returns c =
    let s = c.args.s in
    let n = c.args.self.z.state in
    let z : n - 0 ≡ n = omega arith in
    let h = c.args.self.fits.held in
    let l : length s ≡ 72 = search rules in
    let long : length (take n s) ≡ n = length-take-le n s (omega arith) in
    ap (told n) (c.weave.ensures ∙ rw z refl) ∙ told-state n (take n s) (omega arith) long (below-take 256 n s (array-bytes 72 s _ c.well_formed.1.0))
