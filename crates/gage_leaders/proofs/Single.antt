-- The promises of `table` and `is_count`, as the check reads them (`Post`), admit a single answer. Assumes nothing.
use mathlib.Core.Path.{◌≡◌, sym, ◌∙◌}
use mathlib.Core.Bool.{Bool}
use mathlib.Core.List.{List}
use Prim.Native.Nat.{ℕ}
use contract.Lifetimes.{Lfts}
use denote.Triple.Clauses.{AtExit}
use borrow.Fn.Kinds.{Dens, ended_of}
use Rattle.gage_leaders.proofs.table.Kinds as table-kinds
use Rattle.gage_leaders.proofs.table.Reads as table-reads
use Rattle.gage_leaders.proofs.is_count.Kinds as is-count-kinds
use Rattle.gage_leaders.proofs.is_count.Reads as is-count-reads

pub table-single : (κs : Lfts 0) (a : Dens κs table-kinds.ps) (r r' : List ℕ) (x x' : AtExit (ended_of 0 table-kinds.ps table-kinds.r) κs)
    → table-reads.Post κs a r x → table-reads.Post κs a r' x' → r ≡ r'
table-single κs a r r' x x' p q = p ∙ sym q

pub is-count-single : (κs : Lfts 0) (a : Dens κs is-count-kinds.ps) (r r' : Bool) (x x' : AtExit (ended_of 0 is-count-kinds.ps is-count-kinds.r) κs)
    → is-count-reads.Post κs a r x → is-count-reads.Post κs a r' x' → r ≡ r'
is-count-single κs a r r' x x' p q = p ∙ sym q
