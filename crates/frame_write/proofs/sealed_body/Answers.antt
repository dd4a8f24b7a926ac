-- `sealed_body` meets its promise: the associated data, the sealed line and the body are what each call leaves in its scratch.
-- Assumes nothing.
use mathlib.Core.Path.{refl}
use Prim.Native.Nat.{◌+◌}
use native.Mathlib.Omega.{arith}
use lib.ListN.{replicate}
use Rattle.line_spec.specs.Lines.{longest}
use Rattle.frame_body.specs.declared.Edition.TheVariants.{One, Two}
use Rattle.frame_body.specs.Fields.{seal_length}
use Rattle.frame_body.specs.Lengths.{associated_length, longest_body}
use Rattle.frame_write.proofs.Sealing.{associated-put, sealed-text, sealed-seal, body-put}
use Rattle.frame_write.proofs.sealed_body.Goals as goal

-- what each call leaves: the associated data, the ciphertext and the seal, and so the body
pub returns : goal.returns
returns c =
    let z = c.requires in
    let n = associated_length One + c.job_field_length-length.result in
    let assoc = associated-put z _ _ refl c.put_associated.ensures.out_after n (omega (arith, c.job_field_length-length.ensures)) in
    let cipher = sealed-text z _ (replicate longest 0) (replicate seal_length 0) assoc z.line-to refl _ c.seal.ensures.ciphertext in
    let seal = sealed-seal z _ (replicate longest 0) (replicate seal_length 0) assoc z.line-to refl _ c.seal.ensures.seal in
    body-put z (replicate longest 0) _ _ (replicate (longest_body Two) 0) _ cipher seal (omega arith) c.put_body.ensures.out_after
