-- The promises of `layout_of` and `judge_line`, as the check reads them (`Post`), admit a single answer. Assumes nothing.
use Rattle.std.specs.Prelude.{Result, ⊤}
use mathlib.Core.Path.{◌≡◌, sym, ◌∙◌}
use contract.Lifetimes.{Lfts}
use denote.Triple.Clauses.{AtExit}
use borrow.Fn.Kinds.{Dens, ended_of}
use Rattle.line_layout.specs.declared.Layout.{Layout}
use Rattle.line_layout.specs.declared.LineFault.{LineFault}
use Rattle.line_layout.proofs.layout_of.Kinds as layout-of-kinds
use Rattle.line_layout.proofs.layout_of.Reads as layout-of-reads
use Rattle.line_layout.proofs.judge_line.Kinds as judge-kinds
use Rattle.line_layout.proofs.judge_line.Reads as judge-reads

pub layout-of-single : (κs : Lfts 0) (a : Dens κs layout-of-kinds.ps) (r r' : Layout) (x x' : AtExit (ended_of 0 layout-of-kinds.ps layout-of-kinds.r) κs)
    → layout-of-reads.Post κs a r x → layout-of-reads.Post κs a r' x' → r ≡ r'
layout-of-single κs a r r' x x' p q = p ∙ sym q

pub judge-line-single : (κs : Lfts 1) (a : Dens κs judge-kinds.ps) (r r' : Result ⊤ LineFault) (x x' : AtExit (ended_of 1 judge-kinds.ps judge-kinds.r) κs)
    → judge-reads.Post κs a r x → judge-reads.Post κs a r' x' → r ≡ r'
judge-line-single κs a r r' x x' p q = p ∙ sym q
