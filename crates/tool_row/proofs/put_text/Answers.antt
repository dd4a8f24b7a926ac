-- `put_text` meets its promise: the text is copied into the part that begins at the place. Assumes nothing.
use Rattle.tool_row.proofs.Laying.{copied-laid}
use Rattle.tool_row.proofs.put_text.Goals as goal

pub returns : goal.returns
returns c =
    let laid = copied-laid c.args.at c.args.text.now c.args.out.now _ c.requires c.copy.ensures in
    record { value = laid.0; out_after = laid.1 }
