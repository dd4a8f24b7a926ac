-- The promises of `accept` and `accept_number`, as the check reads them (`Post`), admit a single answer. Assumes nothing.
use mathlib.Core.Path.{◌≡◌, sym, ◌∙◌}
use Prim.Native.Nat.{ℕ}
use contract.Lifetimes.{Lfts}
use denote.Triple.Clauses.{AtExit}
use borrow.Fn.Kinds.{Dens, ended_of}
use Rattle.accept_spec.specs.declared.Accepted.{Accepted}
use Rattle.accept_call.proofs.accept.Kinds as kinds
use Rattle.accept_call.proofs.accept.Reads.{Post}
use Rattle.accept_call.proofs.accept_number.Kinds as number-kinds
use Rattle.accept_call.proofs.accept_number.Reads as number-reads

pub accept-single : (κs : Lfts 3) (a : Dens κs kinds.ps) (r r' : Accepted) (x x' : AtExit (ended_of 3 kinds.ps kinds.r) κs)
    → Post κs a r x → Post κs a r' x' → r ≡ r'
accept-single κs a r r' x x' p q = p ∙ sym q

pub accept-number-single : (κs : Lfts 0) (a : Dens κs number-kinds.ps) (r r' : ℕ) (x x' : AtExit (ended_of 0 number-kinds.ps number-kinds.r) κs)
    → number-reads.Post κs a r x → number-reads.Post κs a r' x' → r ≡ r'
accept-number-single κs a r r' x x' p q = p ∙ sym q
