-- The promise of `is_unfeedable`, as the check reads it (`Post`), admits a single answer. Assumes nothing.
use mathlib.Core.Path.{◌≡◌, sym, ◌∙◌}
use mathlib.Core.Bool.{Bool}
use contract.Lifetimes.{Lfts}
use denote.Triple.Clauses.{AtExit}
use borrow.Fn.Kinds.{Dens, ended_of}
use Rattle.running_spec.proofs.is_unfeedable.Kinds as unfeedable-kinds
use Rattle.running_spec.proofs.is_unfeedable.Reads as unfeedable-reads

pub is-unfeedable-single : (κs : Lfts 0) (a : Dens κs unfeedable-kinds.ps) (r r' : Bool) (x x' : AtExit (ended_of 0 unfeedable-kinds.ps unfeedable-kinds.r) κs)
    → unfeedable-reads.Post κs a r x → unfeedable-reads.Post κs a r' x' → r ≡ r'
is-unfeedable-single κs a r r' x x' p q = p ∙ sym q
