-- The promise of `said`, as the check reads it (`Post`), admits a single answer. Assumes nothing.
use mathlib.Core.Path.{◌≡◌, sym, ◌∙◌}
use contract.Lifetimes.{Lfts}
use denote.Triple.Clauses.{AtExit}
use borrow.Fn.Kinds.{Dens, ended_of}
use Rattle.tool_loads.specs.declared.Text.{Text}
use Rattle.tool_loads.proofs.said.Kinds as said-kinds
use Rattle.tool_loads.proofs.said.Reads as said-reads

pub said-single : (κs : Lfts 0) (a : Dens κs said-kinds.ps) (r r' : Text) (x x' : AtExit (ended_of 0 said-kinds.ps said-kinds.r) κs)
    → said-reads.Post κs a r x → said-reads.Post κs a r' x' → r ≡ r'
said-single κs a r r' x x' p q = p ∙ sym q
