-- The promise of `listed`, as the check reads it (`Post`), admits a single answer. Assumes nothing.
use mathlib.Core.Path.{◌≡◌, sym, ◌∙◌}
use mathlib.Core.Bool.{Bool}
use contract.Lifetimes.{Lfts}
use denote.Triple.Clauses.{AtExit}
use borrow.Fn.Kinds.{Dens, ended_of}
use Rattle.line_spec.proofs.listed.Kinds as listed-kinds
use Rattle.line_spec.proofs.listed.Reads as listed-reads

pub listed-single : (κs : Lfts 0) (a : Dens κs listed-kinds.ps) (r r' : Bool) (x x' : AtExit (ended_of 0 listed-kinds.ps listed-kinds.r) κs)
    → listed-reads.Post κs a r x → listed-reads.Post κs a r' x' → r ≡ r'
listed-single κs a r r' x x' p q = p ∙ sym q
