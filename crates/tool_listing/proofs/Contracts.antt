-- `Gives` (specs/Joining.antt) is the contract of `next_row`, and of `lines_row` with edition one and no layout, as the check reads them (`Post`): what is
-- stated of `Gives` holds of whatever a proved call gives. Assumes nothing.
use contract.Lifetimes.{Lfts}
use denote.Triple.Clauses.{AtExit}
use borrow.Fn.Kinds.{Dens, ended_of}
use Rattle.line_layout.specs.declared.Layout.TheVariants.{Neither}
use Rattle.frame_body.specs.declared.Edition.TheVariants.{One}
use Rattle.frame_body.specs.Answers.{edition_number}
use Rattle.tool_listing.specs.declared.Step.{Step}
use Rattle.tool_listing.specs.Joining.{Gives}
use Rattle.tool_listing.proofs.next_row.Kinds as next-kinds
use Rattle.tool_listing.proofs.next_row.Reads as next-reads
use Rattle.tool_listing.proofs.lines_row.Kinds as lines-kinds
use Rattle.tool_listing.proofs.lines_row.Reads as lines-reads

-- the arguments are stream, key, font digest, editions, layout, cursor and row buffer
pub next-row-promises : (κs : Lfts 4) (a : Dens κs next-kinds.ps) (r : Step) (x : AtExit (ended_of 4 next-kinds.ps next-kinds.r) κs)
    → next-reads.Post κs a r x
    → Gives a.1.0.now a.1.1.0.now a.1.1.1.0 a.1.1.1.1.0 a.0.now a.1.1.1.1.1.0 a.1.1.1.1.1.1.0.now r
    x.1.1.1.1.1.1.0.now
next-row-promises κs a r x p = p

-- the arguments are stream, key, font digest, cursor and row buffer
pub lines-row-promises : (κs : Lfts 4) (a : Dens κs lines-kinds.ps) (r : Step) (x : AtExit (ended_of 4 lines-kinds.ps lines-kinds.r) κs)
    → lines-reads.Post κs a r x
    → Gives a.1.0.now a.1.1.0.now (edition_number One) Neither a.0.now a.1.1.1.0 a.1.1.1.1.0.now r x.1.1.1.1.0.now
lines-row-promises κs a r x p = p
