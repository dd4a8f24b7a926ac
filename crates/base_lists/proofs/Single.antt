-- The promises of `copy`, `clear` and `compare`, as the check reads them (`Post`), admit a single answer.
-- Assumes nothing.
use mathlib.Core.Path.{◌≡◌, sym, ◌∙◌}
use mathlib.Core.Bool.{Bool}
use contract.Lifetimes.{Lfts}
use denote.Triple.Clauses.{AtExit}
use borrow.Fn.Kinds.{Dens, ended_of}
use Rattle.base_lists.proofs.copy.Kinds as copy-kinds
use Rattle.base_lists.proofs.copy.Reads as copy-reads
use Rattle.base_lists.proofs.clear.Kinds as clear-kinds
use Rattle.base_lists.proofs.clear.Reads as clear_reads
use Rattle.base_lists.proofs.compare.Kinds as compare-kinds
use Rattle.base_lists.proofs.compare.Reads as compare-reads

pub copy-single : (κs : Lfts 2) (a : Dens κs copy-kinds.ps) (r r' : Unit {0}) (x x' : AtExit (ended_of 2 copy-kinds.ps copy-kinds.r) κs)
    → copy-reads.Post κs a r x → copy-reads.Post κs a r' x' → x.1.0.now ≡ x'.1.0.now
copy-single κs a r r' x x' p q = p ∙ sym q

pub clear-single : (κs : Lfts 1) (a : Dens κs clear-kinds.ps) (r r' : Unit {0}) (x x' : AtExit (ended_of 1 clear-kinds.ps clear-kinds.r) κs)
    → clear_reads.Post κs a r x → clear_reads.Post κs a r' x' → x.0.now ≡ x'.0.now
clear-single κs a r r' x x' p q = p ∙ sym q

pub compare-single : (κs : Lfts 2) (a : Dens κs compare-kinds.ps) (r r' : Bool) (x x' : AtExit (ended_of 2 compare-kinds.ps compare-kinds.r) κs)
    → compare-reads.Post κs a r x → compare-reads.Post κs a r' x' → r ≡ r'
compare-single κs a r r' x x' p q = p ∙ sym q
