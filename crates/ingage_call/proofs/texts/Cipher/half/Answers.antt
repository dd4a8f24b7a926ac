-- `half` meets its promise: at a permitted size the permutation in planes is done. Assumes nothing.
use mathlib.Core.Path.{refl, ap, ◌∙◌}
use Prim.Native.Nat.{◌/◌}
use Rattle.gage_spec.specs.Permutation.{ROUNDS}
use Rattle.gage_spec.specs.Tables.{permitted-size}
use Rattle.gage_spec.specs.Answers.{judged-done}
use Rattle.gage_planes_spec.specs.Told.{told}
use Rattle.gage_planes_spec.proofs.Permuting.{told-permuted}
use Rattle.ingage_call.proofs.texts.Cipher.half.Goals as goal

pub returns : goal.returns
returns c =
    let n = c.args.self.z.state in
    ap (told n) c.permuted.ensures ∙ told-permuted n (ROUNDS / 2) c.args.s (judged-done n (ROUNDS / 2) c.args.self.fits.allowed refl)
    (permitted-size n c.args.self.fits.allowed).1
