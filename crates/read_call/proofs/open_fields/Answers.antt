-- `open_fields` meets its promise: what is found of the parts is what judging them says. Assumes nothing.
use Rattle.read_call.proofs.Parts.{opened-fields}
use Rattle.read_call.proofs.open_fields.Goals as goal

pub returns : goal.returns
returns c =
    let met = opened-fields c.args.layout c.args.body.now c.args.key.now c.args.edition c.args.n c.requires.parts c.requires.key_len.0 c.args.line.now c.requires.key_len.1 _ _
    c.number_of-number.ensures c.job_of-job.ensures
    _ c.open_parts-found.ensures.value _ c.open_parts-found.ensures.line_after _ c.verdict_on.ensures in
    record { value = met.0; line_after = met.1 }
