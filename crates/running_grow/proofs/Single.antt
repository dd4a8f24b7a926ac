-- The promise of `grow`, as the check reads it (`Post`), admits a single answer. Assumes nothing.
use mathlib.Core.Path.{◌≡◌, sym, ◌∙◌}
use contract.Lifetimes.{Lfts}
use denote.Triple.Clauses.{AtExit}
use borrow.Fn.Kinds.{Dens, ended_of}
use Rattle.running_grow.specs.declared.Grown.{Grown}
use Rattle.running_grow.proofs.grow.Kinds as grow-kinds
use Rattle.running_grow.proofs.grow.Reads as grow-reads

pub grow-single : (κs : Lfts 1) (a : Dens κs grow-kinds.ps) (r r' : Grown) (x x' : AtExit (ended_of 1 grow-kinds.ps grow-kinds.r) κs)
    → grow-reads.Post κs a r x → grow-reads.Post κs a r' x' → r ≡ r'
grow-single κs a r r' x x' p q = p ∙ sym q
