-- The promises of `permute` and `unpermute`, as the check reads them (`Post`), admit a single answer. Assumes nothing.
use mathlib.Core.Path.{◌≡◌, sym, ◌∙◌}
use contract.Lifetimes.{Lfts}
use denote.Triple.Clauses.{AtExit}
use borrow.Fn.Kinds.{Dens, ended_of}
use Rattle.gage_spec.specs.declared.Permuted.{Permuted}
use Rattle.gage_permute.proofs.permute.Kinds as permute-kinds
use Rattle.gage_permute.proofs.permute.Reads as permute-reads
use Rattle.gage_permute.proofs.unpermute.Kinds as unpermute-kinds
use Rattle.gage_permute.proofs.unpermute.Reads as unpermute-reads

pub permute-single : (κs : Lfts 0) (a : Dens κs permute-kinds.ps) (r r' : Permuted) (x x' : AtExit (ended_of 0 permute-kinds.ps permute-kinds.r) κs)
    → permute-reads.Post κs a r x → permute-reads.Post κs a r' x' → r ≡ r'
permute-single κs a r r' x x' p q = p ∙ sym q

pub unpermute-single : (κs : Lfts 0) (a : Dens κs unpermute-kinds.ps) (r r' : Permuted)
    (x x' : AtExit (ended_of 0 unpermute-kinds.ps unpermute-kinds.r) κs)
    → unpermute-reads.Post κs a r x → unpermute-reads.Post κs a r' x' → r ≡ r'
unpermute-single κs a r r' x x' p q = p ∙ sym q
