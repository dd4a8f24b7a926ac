-- The promises of `numbers` and of the calls that give one of them, as the check reads them (`Post`), admit a single answer. Assumes nothing.
use mathlib.Core.Path.{◌≡◌, sym, ◌∙◌}
use Prim.Native.Nat.{ℕ}
use contract.Lifetimes.{Lfts}
use denote.Triple.Clauses.{AtExit}
use borrow.Fn.Kinds.{Dens, ended_of}
use Rattle.read_numbers.specs.declared.Report.{Report}
use Rattle.read_numbers.proofs.numbers.Kinds as numbers-kinds
use Rattle.read_numbers.proofs.numbers.Reads as numbers-reads
use Rattle.read_numbers.proofs.read_count.Kinds as read-count-kinds
use Rattle.read_numbers.proofs.read_count.Reads as read-count-reads
use Rattle.read_numbers.proofs.read_number.Kinds as read-number-kinds
use Rattle.read_numbers.proofs.read_number.Reads as read-number-reads
use Rattle.read_numbers.proofs.read_length.Kinds as read-length-kinds
use Rattle.read_numbers.proofs.read_length.Reads as read-length-reads

pub read-number-single : (κs : Lfts 0) (a : Dens κs read-number-kinds.ps) (r r' : ℕ) (x x' : AtExit (ended_of 0 read-number-kinds.ps read-number-kinds.r) κs)
    → read-number-reads.Post κs a r x → read-number-reads.Post κs a r' x' → r ≡ r'
read-number-single κs a r r' x x' p q = p ∙ sym q

pub read-length-single : (κs : Lfts 0) (a : Dens κs read-length-kinds.ps) (r r' : ℕ) (x x' : AtExit (ended_of 0 read-length-kinds.ps read-length-kinds.r) κs)
    → read-length-reads.Post κs a r x → read-length-reads.Post κs a r' x' → r ≡ r'
read-length-single κs a r r' x x' p q = p ∙ sym q

pub read-count-single : (κs : Lfts 0) (a : Dens κs read-count-kinds.ps) (r r' : ℕ) (x x' : AtExit (ended_of 0 read-count-kinds.ps read-count-kinds.r) κs)
    → read-count-reads.Post κs a r x → read-count-reads.Post κs a r' x' → r ≡ r'
read-count-single κs a r r' x x' p q = p ∙ sym q

pub numbers-single : (κs : Lfts 0) (a : Dens κs numbers-kinds.ps) (r r' : Report) (x x' : AtExit (ended_of 0 numbers-kinds.ps numbers-kinds.r) κs)
    → numbers-reads.Post κs a r x → numbers-reads.Post κs a r' x' → r ≡ r'
numbers-single κs a r r' x x' p q = p ∙ sym q
