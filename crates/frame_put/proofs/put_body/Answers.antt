-- `put_body` meets its promise: the fields are laid one behind the other from the buffer's start (`Laid`). Assumes nothing.
use mathlib.Core.Path.{sym, ◌∙◌}
use native.Mathlib.Omega.{arith}
use Rattle.frame_put.specs.Outcomes.{put_refused, put_small}
use Rattle.base_fields.specs.Laying.{laid-room}
use Rattle.frame_put.proofs.Laying.{ready, room-associated, laid_nonce, laid_associated, laid_cipher, laid_seal, put_whole}
use Rattle.frame_body.proofs.Lengths.{length-body}
use Rattle.frame_put.specs.Fitting.{fitting-sized}
use Rattle.frame_body.specs.Fields.{own_of}
use Rattle.frame_put.proofs.put_body.Goals as goal

pub returns-then-not-fit : goal.returns-then-not-fit
returns-then-not-fit c =
    let told = put_refused _ _ _ _ _ (sym c.fit.ensures ∙ c.if-not-fit.true) in record { value = sym told.0; out_after = sym told.1 }

pub returns-then-out-job_field_length : goal.returns-then-out-job_field_length
returns-then-out-job_field_length c =
    let own = own_of c.args.edition c.args.nonce.now c.args.job.now in
    let z = fitting-sized own c.args.digest.now c.args.cipher.now c.args.seal.now (sym c.fit.ensures ∙ c.if-not-fit.false) in
    let told =
    put_small own c.args.digest.now c.args.cipher.now c.args.seal.now c.args.out.now z (omega (arith, c.job_field_length.ensures, length-body z)) in
    record { value = sym told.0; out_after = sym told.1 }

pub lay_associated-cipher_at-requires : goal.lay_associated-cipher_at-requires
lay_associated-cipher_at-requires c =
    let own = own_of c.args.edition c.args.nonce.now c.args.job.now in
    let r =
    ready own c.args.digest.now c.args.cipher.now c.args.seal.now c.args.out.now (sym c.fit.ensures ∙ c.if-not-fit.false)
    (omega (arith, c.job_field_length.ensures)) in
    let first = laid_nonce r c.put_field-digest_at.ensures.value c.put_field-digest_at.ensures.out_after in
    record { job_in_bounds = laid-room first (room-associated r); digest_len = (r.sized.digest-is, r.sized.job_is) }

pub returns : goal.returns
returns c =
    let own = own_of c.args.edition c.args.nonce.now c.args.job.now in
    let r =
    ready own c.args.digest.now c.args.cipher.now c.args.seal.now c.args.out.now (sym c.fit.ensures ∙ c.if-not-fit.false)
    (omega (arith, c.job_field_length.ensures)) in
    let first = laid_nonce r c.put_field-digest_at.ensures.value c.put_field-digest_at.ensures.out_after in
    let second = laid_associated r first c.lay_associated-cipher_at.ensures.value c.lay_associated-cipher_at.ensures.out_after in
    let third = laid_cipher r second c.put_field-seal_at.ensures.value c.put_field-seal_at.ensures.out_after in
    let fourth = laid_seal r third c.put_field-end.ensures.value c.put_field-end.ensures.out_after in
    let whole = put_whole r.sized fourth in
    record { value = whole.0; out_after = whole.1 }
