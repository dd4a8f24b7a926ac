-- The promises of `star`, `substituted_byte` and `table_holds`, as the check reads them (`Post`), admit a single answer. Assumes nothing.
use mathlib.Core.Path.{◌≡◌, sym, ◌∙◌}
use mathlib.Core.Bool.{Bool}
use Prim.Native.Nat.{ℕ}
use contract.Lifetimes.{Lfts}
use denote.Triple.Clauses.{AtExit}
use borrow.Fn.Kinds.{Dens, ended_of}
use Rattle.gage_cells.proofs.star.Kinds as star-kinds
use Rattle.gage_cells.proofs.star.Reads as star-reads
use Rattle.gage_cells.proofs.table_holds.Kinds as table-holds-kinds
use Rattle.gage_cells.proofs.table_holds.Reads as table-holds-reads
use Rattle.gage_cells.proofs.substituted_byte.Kinds as substituted-byte-kinds
use Rattle.gage_cells.proofs.substituted_byte.Reads as substituted-byte-reads

pub star-single : (κs : Lfts 0) (a : Dens κs star-kinds.ps) (r r' : ℕ) (x x' : AtExit (ended_of 0 star-kinds.ps star-kinds.r) κs)
    → star-reads.Post κs a r x → star-reads.Post κs a r' x' → r ≡ r'
star-single κs a r r' x x' p q = p ∙ sym q

pub substituted-byte-single : (κs : Lfts 0) (a : Dens κs substituted-byte-kinds.ps) (r r' : ℕ)
    (x x' : AtExit (ended_of 0 substituted-byte-kinds.ps substituted-byte-kinds.r) κs)
    → substituted-byte-reads.Post κs a r x → substituted-byte-reads.Post κs a r' x' → r ≡ r'
substituted-byte-single κs a r r' x x' p q = p ∙ sym q

pub table-holds-single : (κs : Lfts 0) (a : Dens κs table-holds-kinds.ps) (r r' : Bool)
    (x x' : AtExit (ended_of 0 table-holds-kinds.ps table-holds-kinds.r) κs)
    → table-holds-reads.Post κs a r x → table-holds-reads.Post κs a r' x' → r ≡ r'
table-holds-single κs a r r' x x' p q = p ∙ sym q
