-- `open_parts` meets its promise: edition and length fix where each value stands, so the parts lent on are the values. Assumes nothing.
use Rattle.read_call.proofs.Parts.{as-cut}
use Rattle.read_call.proofs.open_parts.Goals as goal

pub returns : goal.returns
returns c =
    let met = as-cut c.args.layout c.args.body.now c.args.key.now c.args.edition c.args.n c.requires _
    c.job_field_length-more.ensures c.args.line.now _ _
    c.open_line.ensures.answer c.open_line.ensures.line in
    record { value = met.0; line_after = met.1 }
