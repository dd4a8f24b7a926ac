-- The promises of `desk` and `desk_report`, as the check reads them (`Post`), admit a single answer and a single output. Assumes nothing.
use Rattle.std.specs.Prelude.{Result, ℕ}
use mathlib.Core.Path.{◌≡◌, sym, ◌∙◌}
use contract.Lifetimes.{Lfts}
use denote.Triple.Clauses.{AtExit}
use borrow.Fn.Kinds.{Dens, ended_of}
use Rattle.desk_spec.specs.declared.DeskRefusal.{DeskRefusal}
use Rattle.desk_call.specs.declared.Report.{Report}
use Rattle.desk_call.proofs.desk.Kinds as kinds
use Rattle.desk_call.proofs.desk.Reads.{Post}
use Rattle.desk_call.proofs.desk_report.Kinds as report-kinds
use Rattle.desk_call.proofs.desk_report.Reads as report-reads

pub desk-single : (κs : Lfts 6) (a : Dens κs kinds.ps) (r r' : Result ℕ DeskRefusal) (x x' : AtExit (ended_of 6 kinds.ps kinds.r) κs)
    → Post κs a r x → Post κs a r' x' → (r ≡ r') × (x.1.1.1.1.1.1.1.1.0.now ≡ x'.1.1.1.1.1.1.1.1.0.now)
desk-single κs a r r' x x' p q = (p.0 ∙ sym q.0, p.1 ∙ sym q.1)

pub desk-report-single : (κs : Lfts 0) (a : Dens κs report-kinds.ps) (r r' : Report) (x x' : AtExit (ended_of 0 report-kinds.ps report-kinds.r) κs)
    → report-reads.Post κs a r x → report-reads.Post κs a r' x' → r ≡ r'
desk-report-single κs a r r' x x' p q = p ∙ sym q
