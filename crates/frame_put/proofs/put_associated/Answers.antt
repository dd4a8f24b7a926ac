-- `put_associated` meets its promise: the associated data laid from the buffer's start (`Laid`). Assumes nothing.
use mathlib.Core.Path.{sym, ◌∙◌}
use native.Mathlib.Omega.{arith}
use Rattle.base_fields.specs.Laying.{laid_none, laid_more, laid-room}
use Rattle.frame_put.proofs.Laying.{associated-whole, room-alone}
use Rattle.frame_put.specs.Outcomes.{associated-refused, associated-small}
use Rattle.frame_put.specs.Fitting.{associated-sized}
use Rattle.frame_body.proofs.Lengths.{length-associated}
use Rattle.frame_put.proofs.put_associated.Goals as goal

pub returns-then-not-fit_associated : goal.returns-then-not-fit_associated
returns-then-not-fit_associated c =
    let told = associated-refused _ _ _ _ (sym c.fit_associated.ensures ∙ c.if-not-fit_associated.true) in
    record { value = sym told.0; out_after = sym told.1 }

pub returns-then-out-job_field_length : goal.returns-then-out-job_field_length
returns-then-out-job_field_length c =
    let z = associated-sized c.args.edition c.args.digest.now c.args.job.now (sym c.fit_associated.ensures ∙ c.if-not-fit_associated.false) in
    let told =
    associated-small c.args.edition c.args.digest.now c.args.job.now c.args.out.now z.0 z.1
    (omega (arith, c.job_field_length.ensures, length-associated c.args.edition c.args.digest.now c.args.job.now z.0 z.1)) in
    record { value = sym told.0; out_after = sym told.1 }

pub lay_associated-requires : goal.lay_associated-requires
lay_associated-requires c =
    let z = associated-sized c.args.edition c.args.digest.now c.args.job.now (sym c.fit_associated.ensures ∙ c.if-not-fit_associated.false) in
    let room =
    room-alone c.args.edition c.args.digest.now c.args.job.now c.args.out.now z.0 z.1 (omega (arith, c.job_field_length.ensures)) in
    record { job_in_bounds = laid-room (laid_none _) room; digest_len = z }

pub returns : goal.returns
returns c =
    let z = associated-sized c.args.edition c.args.digest.now c.args.job.now (sym c.fit_associated.ensures ∙ c.if-not-fit_associated.false) in
    let room =
    room-alone c.args.edition c.args.digest.now c.args.job.now c.args.out.now z.0 z.1 (omega (arith, c.job_field_length.ensures)) in
    let whole =
    associated-whole c.args.edition c.args.digest.now c.args.job.now c.args.out.now z.0 z.1
    (laid_more (laid_none _) room c.lay_associated.ensures.value c.lay_associated.ensures.out_after) in
    record { value = whole.0; out_after = whole.1 }
