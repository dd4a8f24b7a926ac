-- The promises of `permuted`, as the check reads them (`Post`), admit a single answer. Assumes nothing.
use mathlib.Core.Path.{◌≡◌, sym, ◌∙◌}
use Rattle.gage_planes_spec.specs.declared.State.{State}
use contract.Lifetimes.{Lfts}
use denote.Triple.Clauses.{AtExit}
use borrow.Fn.Kinds.{Dens, ended_of}
use Rattle.gage_planes.proofs.permuted.Kinds as permuted-kinds
use Rattle.gage_planes.proofs.permuted.Reads as permuted-reads

pub permuted-single : (κs : Lfts 0) (a : Dens κs permuted-kinds.ps) (r r' : State) (x x' : AtExit (ended_of 0 permuted-kinds.ps permuted-kinds.r) κs)
    → permuted-reads.Post κs a r x → permuted-reads.Post κs a r' x' → r ≡ r'
permuted-single κs a r r' x x' p q = p ∙ sym q
