-- The promises of `outcome_number`, `is_back`, `forth` and `back`, as the check reads them (`Post`), admit a single answer. Assumes nothing.
use mathlib.Core.Path.{◌≡◌, sym, ◌∙◌}
use mathlib.Core.Bool.{Bool}
use Prim.Native.Nat.{ℕ}
use contract.Lifetimes.{Lfts}
use denote.Triple.Clauses.{AtExit}
use borrow.Fn.Kinds.{Dens, ended_of}
use Rattle.tool_trial.specs.declared.Trial.{Trial}
use Rattle.tool_trial.proofs.outcome_number.Kinds as number-kinds
use Rattle.tool_trial.proofs.outcome_number.Reads as number-reads
use Rattle.tool_trial.proofs.is_back.Kinds as is-back-kinds
use Rattle.tool_trial.proofs.is_back.Reads as is-back-reads
use Rattle.tool_trial.proofs.forth.Kinds as forth-kinds
use Rattle.tool_trial.proofs.forth.Reads as forth-reads
use Rattle.tool_trial.proofs.back.Kinds as back-kinds
use Rattle.tool_trial.proofs.back.Reads as back-reads

pub outcome-number-single : (κs : Lfts 0) (a : Dens κs number-kinds.ps) (r r' : ℕ) (x x' : AtExit (ended_of 0 number-kinds.ps number-kinds.r) κs)
    → number-reads.Post κs a r x → number-reads.Post κs a r' x' → r ≡ r'
outcome-number-single κs a r r' x x' p q = p ∙ sym q

pub is-back-single : (κs : Lfts 1) (a : Dens κs is-back-kinds.ps) (r r' : Bool) (x x' : AtExit (ended_of 1 is-back-kinds.ps is-back-kinds.r) κs)
    → is-back-reads.Post κs a r x → is-back-reads.Post κs a r' x' → r ≡ r'
is-back-single κs a r r' x x' p q = p ∙ sym q

pub forth-single : (κs : Lfts 3) (a : Dens κs forth-kinds.ps) (r r' : Trial) (x x' : AtExit (ended_of 3 forth-kinds.ps forth-kinds.r) κs)
    → forth-reads.Post κs a r x → forth-reads.Post κs a r' x' → r ≡ r'
forth-single κs a r r' x x' p q = p ∙ sym q

pub back-single : (κs : Lfts 3) (a : Dens κs back-kinds.ps) (r r' : Trial) (x x' : AtExit (ended_of 3 back-kinds.ps back-kinds.r) κs)
    → back-reads.Post κs a r x → back-reads.Post κs a r' x' → r ≡ r'
back-single κs a r r' x x' p q = p ∙ sym q
