-- The promise of `field`, as the check reads it (`Post`), admits a single answer. Assumes nothing.
use mathlib.Core.Path.{◌≡◌, sym, ◌∙◌}
use Prim.Native.Nat.{ℕ}
use contract.Lifetimes.{Lfts}
use denote.Triple.Clauses.{AtExit}
use borrow.Fn.Kinds.{Dens, ended_of}
use Rattle.lubdhvani.proofs.answers.field.Kinds as kinds
use Rattle.lubdhvani.proofs.answers.field.Reads as reads

pub field-single : (κs : Lfts 0) (a : Dens κs kinds.ps) (r r' : ℕ)
    (x x' : AtExit (ended_of 0 kinds.ps kinds.r) κs)
    → reads.Post κs a r x → reads.Post κs a r' x' → r ≡ r'
field-single κs a r r' x x' p q = p ∙ sym q
