-- The promises of these calls, as the check reads them (`Post`), admit a single answer. Assumes nothing.
use Rattle.std.specs.Prelude.{Option, ℕ}
use mathlib.Core.Path.{◌≡◌, sym, ◌∙◌}
use contract.Lifetimes.{Lfts}
use denote.Triple.Clauses.{AtExit}
use borrow.Fn.Kinds.{Dens, ended_of}
use Rattle.running_spec.specs.declared.Record.{Record}
use Rattle.tool_sums.specs.declared.Sum.{Sum}
use Rattle.tool_sums.proofs.judge_word.Kinds as judge-word-kinds
use Rattle.tool_sums.proofs.judge_word.Reads as judge-word-reads
use Rattle.tool_sums.proofs.begin.Kinds as begin-kinds
use Rattle.tool_sums.proofs.begin.Reads as begin-reads
use Rattle.tool_sums.proofs.judge_part.Kinds as judge-part-kinds
use Rattle.tool_sums.proofs.judge_part.Reads as judge-part-reads
use Rattle.tool_sums.proofs.take_part.Kinds as take-part-kinds
use Rattle.tool_sums.proofs.take_part.Reads as take-part-reads

pub judge-word-single : (κs : Lfts 1) (a : Dens κs judge-word-kinds.ps) (r r' : Option ℕ) (x x' : AtExit (ended_of 1 judge-word-kinds.ps judge-word-kinds.r) κs)
    → judge-word-reads.Post κs a r x → judge-word-reads.Post κs a r' x' → r ≡ r'
judge-word-single κs a r r' x x' p q = p ∙ sym q

pub begin-single : (κs : Lfts 0) (a : Dens κs begin-kinds.ps) (r r' : Record) (x x' : AtExit (ended_of 0 begin-kinds.ps begin-kinds.r) κs)
    → begin-reads.Post κs a r x → begin-reads.Post κs a r' x' → r ≡ r'
begin-single κs a r r' x x' p q = p ∙ sym q

pub judge-part-single : (κs : Lfts 1) (a : Dens κs judge-part-kinds.ps) (r r' : Sum) (x x' : AtExit (ended_of 1 judge-part-kinds.ps judge-part-kinds.r) κs)
    → judge-part-reads.Post κs a r x → judge-part-reads.Post κs a r' x' → r ≡ r'
judge-part-single κs a r r' x x' p q = p ∙ sym q

pub take-part-single : (κs : Lfts 1) (a : Dens κs take-part-kinds.ps) (r r' : Record) (x x' : AtExit (ended_of 1 take-part-kinds.ps take-part-kinds.r) κs)
    → take-part-reads.Post κs a r x → take-part-reads.Post κs a r' x' → r ≡ r'
take-part-single κs a r r' x x' p q = p ∙ sym q
