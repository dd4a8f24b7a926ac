-- The promises of `is_too_long` and `calls`, as the check reads them (`Post`), admit a single answer. Assumes nothing.
use mathlib.Core.Path.{◌≡◌, sym, ◌∙◌}
use mathlib.Core.Bool.{Bool}
use Prim.Native.Nat.{ℕ}
use contract.Lifetimes.{Lfts}
use denote.Triple.Clauses.{AtExit}
use borrow.Fn.Kinds.{Dens, ended_of}
use Rattle.ingage_answers.proofs.is_too_long.Kinds as is-too-long-kinds
use Rattle.ingage_answers.proofs.is_too_long.Reads as is-too-long-reads
use Rattle.ingage_answers.proofs.calls.Kinds as calls-kinds
use Rattle.ingage_answers.proofs.calls.Reads as calls-reads
use Rattle.ingage_answers.proofs.seal_number.Kinds as seal-number-kinds
use Rattle.ingage_answers.proofs.seal_number.Reads as seal-number-reads
use Rattle.ingage_answers.proofs.seal_count.Kinds as seal-count-kinds
use Rattle.ingage_answers.proofs.seal_count.Reads as seal-count-reads
use Rattle.ingage_answers.proofs.open_number.Kinds as open-number-kinds
use Rattle.ingage_answers.proofs.open_number.Reads as open-number-reads
use Rattle.ingage_answers.proofs.open_count.Kinds as open-count-kinds
use Rattle.ingage_answers.proofs.open_count.Reads as open-count-reads

pub is-too-long-single : (κs : Lfts 0) (a : Dens κs is-too-long-kinds.ps) (r r' : Bool) (x x' : AtExit (ended_of 0 is-too-long-kinds.ps is-too-long-kinds.r) κs)
    → is-too-long-reads.Post κs a r x → is-too-long-reads.Post κs a r' x' → r ≡ r'
is-too-long-single κs a r r' x x' p q = p ∙ sym q

pub calls-single : (κs : Lfts 0) (a : Dens κs calls-kinds.ps) (r r' : ℕ) (x x' : AtExit (ended_of 0 calls-kinds.ps calls-kinds.r) κs)
    → calls-reads.Post κs a r x → calls-reads.Post κs a r' x' → r ≡ r'
calls-single κs a r r' x x' p q = p ∙ sym q

pub seal-number-single : (κs : Lfts 0) (a : Dens κs seal-number-kinds.ps) (r r' : ℕ) (x x' : AtExit (ended_of 0 seal-number-kinds.ps seal-number-kinds.r) κs)
    → seal-number-reads.Post κs a r x → seal-number-reads.Post κs a r' x' → r ≡ r'
seal-number-single κs a r r' x x' p q = p ∙ sym q

pub seal-count-single : (κs : Lfts 0) (a : Dens κs seal-count-kinds.ps) (r r' : ℕ) (x x' : AtExit (ended_of 0 seal-count-kinds.ps seal-count-kinds.r) κs)
    → seal-count-reads.Post κs a r x → seal-count-reads.Post κs a r' x' → r ≡ r'
seal-count-single κs a r r' x x' p q = p ∙ sym q

pub open-number-single : (κs : Lfts 0) (a : Dens κs open-number-kinds.ps) (r r' : ℕ) (x x' : AtExit (ended_of 0 open-number-kinds.ps open-number-kinds.r) κs)
    → open-number-reads.Post κs a r x → open-number-reads.Post κs a r' x' → r ≡ r'
open-number-single κs a r r' x x' p q = p ∙ sym q

pub open-count-single : (κs : Lfts 0) (a : Dens κs open-count-kinds.ps) (r r' : ℕ) (x x' : AtExit (ended_of 0 open-count-kinds.ps open-count-kinds.r) κs)
    → open-count-reads.Post κs a r x → open-count-reads.Post κs a r' x' → r ≡ r'
open-count-single κs a r r' x x' p q = p ∙ sym q
