-- `Presses` is the contract of `press_row`, as the check reads it (`Post`): whatever a proved call gives, what this crate states of `Presses` holds of it.
-- Assumes nothing.
use contract.Lifetimes.{Lfts}
use denote.Triple.Clauses.{AtExit}
use borrow.Fn.Kinds.{Dens, ended_of}
use Rattle.tool_press.specs.declared.Turn.{Turn}
use Rattle.tool_press.proofs.press_row.Kinds as kinds
use Rattle.tool_press.proofs.press_row.Reads as reads
use Rattle.tool_pressing.specs.Turns.{Presses}

-- the arguments are window, how far the listing is, piece, key, font digest and row buffer
pub press-row-promises : (κs : Lfts 5) (a : Dens κs kinds.ps) (r : Turn) (x : AtExit (ended_of 5 kinds.ps kinds.r) κs)
    → reads.Post κs a r x
    → Presses a.1.1.1.0.now a.1.1.1.1.0.now a.1.0 a.0.now a.1.1.0.now a.1.1.1.1.1.0.now r x.0.now
    x.1.1.1.1.1.0.now
press-row-promises κs a r x p = p
