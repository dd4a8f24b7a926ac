-- The promise of `fill`, as the check reads it (`Post`), admits a single answer. Assumes nothing.
use Rattle.std.proofs.Common.{◌≡◌, sym, ◌∙◌}
use contract.Lifetimes.{Lfts}
use denote.Triple.Clauses.{AtExit}
use borrow.Fn.Kinds.{Dens, ended_of}
use Rattle.base_ramp.proofs.fill.Kinds as fill-kinds
use Rattle.base_ramp.proofs.fill.Reads as fill-reads

pub fill-single : (κs : Lfts 1) (a : Dens κs fill-kinds.ps) (r r' : Unit {0}) (x x' : AtExit (ended_of 1 fill-kinds.ps fill-kinds.r) κs)
    → fill-reads.Post κs a r x → fill-reads.Post κs a r' x' → x.0.now ≡ x'.0.now
fill-single κs a r r' x x' p q = p ∙ sym q
