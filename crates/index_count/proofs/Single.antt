-- The promise of `stretches_from`, as the check reads it (`Post`), admits a single answer. Assumes nothing.
use mathlib.Core.Path.{◌≡◌, sym, ◌∙◌}
use Prim.Native.Nat.{ℕ}
use contract.Lifetimes.{Lfts}
use denote.Triple.Clauses.{AtExit}
use borrow.Fn.Kinds.{Dens, ended_of}
use Rattle.index_count.proofs.stretches_from.Kinds as kinds
use Rattle.index_count.proofs.stretches_from.Reads.{Post}

pub stretches-from-single : (κs : Lfts 1) (a : Dens κs kinds.ps) (r r' : ℕ) (x x' : AtExit (ended_of 1 kinds.ps kinds.r) κs)
    → Post κs a r x → Post κs a r' x' → r ≡ r'
stretches-from-single κs a r r' x x' p q = p ∙ sym q
