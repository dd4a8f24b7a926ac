-- The promises of `put_row` and `put_last`, as the check reads them (`Post`), admit a single answer. Assumes nothing.
use Rattle.std.specs.Prelude.{Result, ℕ}
use mathlib.Core.Path.{◌≡◌, sym, ◌∙◌}
use contract.Lifetimes.{Lfts}
use denote.Triple.Clauses.{AtExit}
use borrow.Fn.Kinds.{Dens, ended_of}
use Rattle.tool_row.specs.declared.RowRefusal.{RowRefusal}
use Rattle.tool_row.proofs.put_row.Kinds as row-kinds
use Rattle.tool_row.proofs.put_row.Reads as row_reads
use Rattle.tool_row.proofs.put_last.Kinds as last-kinds
use Rattle.tool_row.proofs.put_last.Reads as last-reads

pub put-row-single : (κs : Lfts 2) (a : Dens κs row-kinds.ps) (r r' : Result ℕ RowRefusal) (x x' : AtExit (ended_of 2 row-kinds.ps row-kinds.r) κs)
    → row_reads.Post κs a r x → row_reads.Post κs a r' x' → (r ≡ r') × (x.1.1.1.0.now ≡ x'.1.1.1.0.now)
put-row-single κs a r r' x x' p q = (p.0 ∙ sym q.0, p.1 ∙ sym q.1)

pub put-last-single : (κs : Lfts 1) (a : Dens κs last-kinds.ps) (r r' : Result ℕ RowRefusal) (x x' : AtExit (ended_of 1 last-kinds.ps last-kinds.r) κs)
    → last-reads.Post κs a r x → last-reads.Post κs a r' x' → (r ≡ r') × (x.1.1.0.now ≡ x'.1.1.0.now)
put-last-single κs a r r' x x' p q = (p.0 ∙ sym q.0, p.1 ∙ sym q.1)
