-- The promise of `copy`, as the check reads it (`Post`), admits a single answer. Assumes nothing.
use mathlib.Core.Path.{◌≡◌, sym, ◌∙◌}
use contract.Lifetimes.{Lfts}
use denote.Triple.Clauses.{AtExit}
use borrow.Fn.Kinds.{Dens, ended_of}
use Rattle.base_lent.proofs.copy.Kinds as copy-kinds
use Rattle.base_lent.proofs.copy.Reads as copy-reads

pub copy-single : (κs : Lfts 2) (a : Dens κs copy-kinds.ps) (r r' : Unit {0}) (x x' : AtExit (ended_of 2 copy-kinds.ps copy-kinds.r) κs)
    → copy-reads.Post κs a r x → copy-reads.Post κs a r' x' → x.1.0.now ≡ x'.1.0.now
copy-single κs a r r' x x' p q = p ∙ sym q
