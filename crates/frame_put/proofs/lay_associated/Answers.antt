-- `lay_associated` meets its promise: field 02 written at the place, and in edition two field 05 behind it. Assumes nothing.
use Rattle.frame_put.proofs.Laying.{laid_one, laid-two}
use Rattle.frame_put.proofs.lay_associated.Goals as goal

pub returns-in-One : goal.returns-in-One
returns-in-One c =
    let laid =
    laid_one c.args.out.now c.args.at c.args.edition c.args.digest.now c.args.job.now c.requires.digest_len.0 c.requires.digest_len.1
    c.requires.job_in_bounds c.in-One.is _ _ c.put_field-job_at.ensures.value c.put_field-job_at.ensures.out_after in
    record { value = laid.0; out_after = laid.1 }

pub returns-in-Two : goal.returns-in-Two
returns-in-Two c =
    let laid =
    laid-two c.args.out.now c.args.at c.args.edition c.args.digest.now c.args.job.now c.requires.digest_len.0 c.requires.digest_len.1
    c.requires.job_in_bounds c.in-Two.is _ _ _ _ c.put_field-job_at.ensures.value c.put_field-job_at.ensures.out_after
    c.put_field.ensures.value c.put_field.ensures.out_after in
    record { value = laid.0; out_after = laid.1 }
