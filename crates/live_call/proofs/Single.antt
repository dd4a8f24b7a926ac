-- The promises of `step` and `end`, and of their numbers, as the check reads them (`Post`), admit a single answer, a single window and a single line
-- buffer. Assumes nothing.
use Rattle.std.specs.Prelude.{Option}
use mathlib.Core.Path.{◌≡◌, sym, ◌∙◌}
use Prim.Native.Nat.{ℕ}
use contract.Lifetimes.{Lfts}
use denote.Triple.Clauses.{AtExit}
use borrow.Fn.Kinds.{Dens, ended_of}
use Rattle.live_spec.specs.declared.Step.{Step}
use Rattle.live_spec.specs.declared.Cut.{Cut}
use Rattle.live_call.proofs.step.Kinds as kinds
use Rattle.live_call.proofs.step.Reads.{Post}
use Rattle.live_call.proofs.end.Kinds as end-kinds
use Rattle.live_call.proofs.end.Reads as end_reads
use Rattle.live_call.proofs.step_number.Kinds as number-kinds
use Rattle.live_call.proofs.step_number.Reads as number-reads
use Rattle.live_call.proofs.end_number.Kinds as end-number-kinds
use Rattle.live_call.proofs.end_number.Reads as end-number-reads

pub step-single : (κs : Lfts 5) (a : Dens κs kinds.ps) (r r' : Step) (x x' : AtExit (ended_of 5 kinds.ps kinds.r) κs)
    → Post κs a r x → Post κs a r' x'
    → (r ≡ r') × (x.0.now ≡ x'.0.now) × (x.1.1.1.1.1.1.0.now ≡ x'.1.1.1.1.1.1.0.now)
step-single κs a r r' x x' p q = (p.0 ∙ sym q.0, p.1.0 ∙ sym q.1.0, p.1.1 ∙ sym q.1.1)

pub end-single : (κs : Lfts 0) (a : Dens κs end-kinds.ps) (r r' : Option Cut) (x x' : AtExit (ended_of 0 end-kinds.ps end-kinds.r) κs)
    → end_reads.Post κs a r x → end_reads.Post κs a r' x' → r ≡ r'
end-single κs a r r' x x' p q = p ∙ sym q

pub step-number-single : (κs : Lfts 0) (a : Dens κs number-kinds.ps) (r r' : ℕ) (x x' : AtExit (ended_of 0 number-kinds.ps number-kinds.r) κs)
    → number-reads.Post κs a r x → number-reads.Post κs a r' x' → r ≡ r'
step-number-single κs a r r' x x' p q = p ∙ sym q

pub end-number-single : (κs : Lfts 0) (a : Dens κs end-number-kinds.ps) (r r' : ℕ) (x x' : AtExit (ended_of 0 end-number-kinds.ps end-number-kinds.r) κs)
    → end-number-reads.Post κs a r x → end-number-reads.Post κs a r' x' → r ≡ r'
end-number-single κs a r r' x x' p q = p ∙ sym q
