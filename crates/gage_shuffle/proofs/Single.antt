-- The promise of `unshuffle`, as the check reads it (`Post`), admits a single answer. Assumes nothing.
use mathlib.Core.Path.{◌≡◌, sym, ◌∙◌}
use mathlib.Core.List.{List}
use Prim.Native.Nat.{ℕ}
use contract.Lifetimes.{Lfts}
use denote.Triple.Clauses.{AtExit}
use borrow.Fn.Kinds.{Dens, ended_of}
use Rattle.gage_shuffle.proofs.unshuffle.Kinds as unshuffle-kinds
use Rattle.gage_shuffle.proofs.unshuffle.Reads as unshuffle-reads

pub unshuffle-single : (κs : Lfts 0) (a : Dens κs unshuffle-kinds.ps) (r r' : List ℕ) (x x' : AtExit (ended_of 0 unshuffle-kinds.ps unshuffle-kinds.r) κs)
    → unshuffle-reads.Post κs a r x → unshuffle-reads.Post κs a r' x' → r ≡ r'
unshuffle-single κs a r r' x x' p q = p ∙ sym q
