-- The promises of `judge_read`, `after_read` and `held`, as the check reads them (`Post`), admit a single answer. Assumes nothing.
use Rattle.std.specs.Prelude.{Result, ℕ}
use mathlib.Core.Path.{◌≡◌, sym, ◌∙◌}
use contract.Lifetimes.{Lfts}
use denote.Triple.Clauses.{AtExit}
use borrow.Fn.Kinds.{Dens, ended_of}
use Rattle.tool_files.specs.declared.Heard.{Heard}
use Rattle.tool_files.specs.declared.LoadFault.{LoadFault}
use Rattle.tool_files.specs.declared.Step.{Step}
use Rattle.tool_files.proofs.judge_read.Kinds as judge-kinds
use Rattle.tool_files.proofs.judge_read.Reads as judge-reads
use Rattle.tool_files.proofs.after_read.Kinds as after-kinds
use Rattle.tool_files.proofs.after_read.Reads as after-reads
use Rattle.tool_files.proofs.held.Kinds as held-kinds
use Rattle.tool_files.proofs.held.Reads as held_reads

pub judge-read-single : (κs : Lfts 0) (a : Dens κs judge-kinds.ps) (r r' : Heard) (x x' : AtExit (ended_of 0 judge-kinds.ps judge-kinds.r) κs)
    → judge-reads.Post κs a r x → judge-reads.Post κs a r' x' → r ≡ r'
judge-read-single κs a r r' x x' p q = p ∙ sym q

pub after-read-single : (κs : Lfts 0) (a : Dens κs after-kinds.ps) (r r' : Step) (x x' : AtExit (ended_of 0 after-kinds.ps after-kinds.r) κs)
    → after-reads.Post κs a r x → after-reads.Post κs a r' x' → r ≡ r'
after-read-single κs a r r' x x' p q = p ∙ sym q

pub held-single : (κs : Lfts 0) (a : Dens κs held-kinds.ps) (r r' : Result ℕ LoadFault) (x x' : AtExit (ended_of 0 held-kinds.ps held-kinds.r) κs)
    → held_reads.Post κs a r x → held_reads.Post κs a r' x' → r ≡ r'
held-single κs a r r' x x' p q = p ∙ sym q
