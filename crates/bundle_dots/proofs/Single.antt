-- The promises of `line_char` and `fault_row`, as the check reads them (`Post`), admit a single answer. Assumes nothing.
use mathlib.Core.Path.{◌≡◌, sym, ◌∙◌}
use Prim.Native.Nat.{ℕ}
use contract.Lifetimes.{Lfts}
use denote.Triple.Clauses.{AtExit}
use borrow.Fn.Kinds.{Dens, ended_of}
use Rattle.bundle_dots.proofs.line_char.Kinds as line-kinds
use Rattle.bundle_dots.proofs.line_char.Reads as line_reads_lem
use Rattle.bundle_dots.proofs.fault_row.Kinds as fault-kinds
use Rattle.bundle_dots.proofs.fault_row.Reads as fault-reads

pub line-char-single : (κs : Lfts 0) (a : Dens κs line-kinds.ps) (r r' : ℕ) (x x' : AtExit (ended_of 0 line-kinds.ps line-kinds.r) κs)
    → line_reads_lem.Post κs a r x → line_reads_lem.Post κs a r' x' → r ≡ r'
line-char-single κs a r r' x x' p q = p ∙ sym q

pub fault-row-single : (κs : Lfts 2) (a : Dens κs fault-kinds.ps) (r r' : ℕ) (x x' : AtExit (ended_of 2 fault-kinds.ps fault-kinds.r) κs)
    → fault-reads.Post κs a r x → fault-reads.Post κs a r' x' → r ≡ r'
fault-row-single κs a r r' x x' p q = p ∙ sym q
