-- The promises of `rule_takes`, `job_size`, `job_field_length` and `judge_body`, as the check reads them (`Post`), admit a single answer. Assumes nothing.
use Rattle.std.specs.Prelude.{Option}
use mathlib.Core.Path.{◌≡◌, sym, ◌∙◌}
use mathlib.Core.Bool.{Bool}
use Prim.Native.Nat.{ℕ}
use contract.Lifetimes.{Lfts}
use denote.Triple.Clauses.{AtExit}
use borrow.Fn.Kinds.{Dens, ended_of}
use Rattle.frame_body.specs.declared.Edition.{Edition}
use Rattle.frame_body.proofs.rule_takes.Kinds as rule-kinds
use Rattle.frame_body.proofs.rule_takes.Reads as rule-reads
use Rattle.frame_body.proofs.job_size.Kinds as size-kinds
use Rattle.frame_body.proofs.job_size.Reads as size-reads
use Rattle.frame_body.proofs.job_field_length.Kinds as length-kinds
use Rattle.frame_body.proofs.job_field_length.Reads as length-reads
use Rattle.frame_body.proofs.judge_body.Kinds as judge-kinds
use Rattle.frame_body.proofs.judge_body.Reads as judge-reads

pub rule-takes-single : (κs : Lfts 0) (a : Dens κs rule-kinds.ps) (r r' : Bool) (x x' : AtExit (ended_of 0 rule-kinds.ps rule-kinds.r) κs)
    → rule-reads.Post κs a r x → rule-reads.Post κs a r' x' → r ≡ r'
rule-takes-single κs a r r' x x' p q = p ∙ sym q

pub job-size-single : (κs : Lfts 0) (a : Dens κs size-kinds.ps) (r r' : ℕ) (x x' : AtExit (ended_of 0 size-kinds.ps size-kinds.r) κs)
    → size-reads.Post κs a r x → size-reads.Post κs a r' x' → r ≡ r'
job-size-single κs a r r' x x' p q = p ∙ sym q

pub job-field-length-single : (κs : Lfts 0) (a : Dens κs length-kinds.ps) (r r' : ℕ) (x x' : AtExit (ended_of 0 length-kinds.ps length-kinds.r) κs)
    → length-reads.Post κs a r x → length-reads.Post κs a r' x' → r ≡ r'
job-field-length-single κs a r r' x x' p q = p ∙ sym q

pub judge-body-single : (κs : Lfts 1) (a : Dens κs judge-kinds.ps) (r r' : Option (Edition × ℕ)) (x x' : AtExit (ended_of 1 judge-kinds.ps judge-kinds.r) κs)
    → judge-reads.Post κs a r x → judge-reads.Post κs a r' x' → r ≡ r'
judge-body-single κs a r r' x x' p q = p ∙ sym q
