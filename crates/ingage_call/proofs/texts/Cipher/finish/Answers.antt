-- `finish` meets its promise: the last byte and the permutation, and the state's bytes told. Assumes nothing.
use mathlib.Core.Path.{ap, ◌∙◌}
use lib.ListN.{take, replicate}
use Rattle.base_lists.specs.Over.{over-whole}
use Rattle.gage_planes_spec.specs.Told.{told}
use Rattle.gage_planes_spec.specs.Bytes.{length-told, take-told}
use Rattle.ingage_steps.specs.First.{finish-first}
use native.Mathlib.Omega.{arith}
use Rattle.ingage_call.proofs.texts.Cipher.finish.Goals as goal

pub returns : goal.returns
returns c =
    let n = c.args.self.z.state in
    let f = c.finish-f.result in
    ap (take n) (c.tell.ensures ∙ over-whole (told 72 f) (replicate 72 0) (omega (arith, length-told 72 f)))
    ∙ take-told n 72 f c.args.self.fits.held ∙ ap (told n) c.finish-f.ensures ∙ finish-first c.args.self.z c.args.s
    c.args.self.fits
