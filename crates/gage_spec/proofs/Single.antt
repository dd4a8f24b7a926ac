-- The promises of `number` and `judge`, as the check reads them (`Post`), admit a single answer. Assumes nothing.
use Rattle.std.specs.Prelude.{Result, ⊤}
use mathlib.Core.Path.{◌≡◌, sym, ◌∙◌}
use Prim.Native.Nat.{ℕ}
use contract.Lifetimes.{Lfts}
use denote.Triple.Clauses.{AtExit}
use borrow.Fn.Kinds.{Dens, ended_of}
use Rattle.gage_spec.specs.declared.PermuteRefusal.{PermuteRefusal}
use Rattle.gage_spec.proofs.number.Kinds as number-kinds
use Rattle.gage_spec.proofs.number.Reads as number-reads
use Rattle.gage_spec.proofs.judge.Kinds as judge-kinds
use Rattle.gage_spec.proofs.judge.Reads as judge-reads

pub number-single : (κs : Lfts 0) (a : Dens κs number-kinds.ps) (r r' : ℕ) (x x' : AtExit (ended_of 0 number-kinds.ps number-kinds.r) κs)
    → number-reads.Post κs a r x → number-reads.Post κs a r' x' → r ≡ r'
number-single κs a r r' x x' p q = p ∙ sym q

pub judge-single : (κs : Lfts 0) (a : Dens κs judge-kinds.ps) (r r' : Result ⊤ PermuteRefusal) (x x' : AtExit (ended_of 0 judge-kinds.ps judge-kinds.r) κs)
    → judge-reads.Post κs a r x → judge-reads.Post κs a r' x' → r ≡ r'
judge-single κs a r r' x x' p q = p ∙ sym q
