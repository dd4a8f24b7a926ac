-- The promise of `closing_of`, as the check reads it (`Post`), admits a single answer. Assumes nothing.
use mathlib.Core.Path.{◌≡◌, sym, ◌∙◌}
use Prim.Native.Nat.{ℕ}
use contract.Lifetimes.{Lfts}
use denote.Triple.Clauses.{AtExit}
use borrow.Fn.Kinds.{Dens, ended_of}
use Rattle.desk_entry.proofs.closing_of.Kinds as kinds
use Rattle.desk_entry.proofs.closing_of.Reads.{Post}

pub closing-of-single : (κs : Lfts 3) (a : Dens κs kinds.ps) (r r' : ℕ) (x x' : AtExit (ended_of 3 kinds.ps kinds.r) κs)
    → Post κs a r x → Post κs a r' x' → r ≡ r'
closing-of-single κs a r r' x x' p q = p ∙ sym q
