-- The promise of `judge_line`, as the check reads it (`Post`), admits a single answer. Assumes nothing.
use Rattle.std.specs.Prelude.{Result, ⊤}
use mathlib.Core.Path.{◌≡◌, sym, ◌∙◌}
use contract.Lifetimes.{Lfts}
use denote.Triple.Clauses.{AtExit}
use borrow.Fn.Kinds.{Dens, ended_of}
use Rattle.line_spec.specs.declared.TradeFault.{TradeFault}
use Rattle.line_judge.proofs.judge_line.Kinds as judge-kinds
use Rattle.line_judge.proofs.judge_line.Reads as judge-reads

pub judge-line-single : (κs : Lfts 1) (a : Dens κs judge-kinds.ps) (r r' : Result ⊤ TradeFault) (x x' : AtExit (ended_of 1 judge-kinds.ps judge-kinds.r) κs)
    → judge-reads.Post κs a r x → judge-reads.Post κs a r' x' → r ≡ r'
judge-line-single κs a r r' x x' p q = p ∙ sym q
