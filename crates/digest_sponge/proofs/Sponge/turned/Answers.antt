-- `turned` meets its promise: at a permitted size the permutation in planes is done. Assumes nothing.
use mathlib.Core.Path.{refl, ap, ◌∙◌}
use Rattle.gage_spec.specs.Permutation.{ROUNDS}
use Rattle.gage_spec.specs.Tables.{permitted-size}
use Rattle.gage_spec.specs.Answers.{judged-done}
use Rattle.gage_planes_spec.specs.Told.{told}
use Rattle.gage_planes_spec.proofs.Permuting.{told-permuted}
use Rattle.digest_sponge.proofs.Sponge.turned.Goals as goal

-- src/lib.rt:76:1
pub returns : goal.returns
returns c =
    let n = c.args.self.size in
    ap (told n) c.permuted.ensures ∙ told-permuted n ROUNDS c.args.s (judged-done n ROUNDS c.args.self.fits.permits refl)
    (permitted-size n c.args.self.fits.permits).1
