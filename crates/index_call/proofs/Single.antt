-- The promises of `update` and `update_number`, as the check reads them (`Post`), admit a single answer and a single table. Assumes nothing.
use mathlib.Core.Path.{◌≡◌, sym, ◌∙◌}
use Prim.Native.Nat.{ℕ}
use contract.Lifetimes.{Lfts}
use denote.Triple.Clauses.{AtExit}
use borrow.Fn.Kinds.{Dens, ended_of}
use Rattle.index_spec.specs.declared.Updated.{Updated}
use Rattle.index_call.proofs.update.Kinds as kinds
use Rattle.index_call.proofs.update.Reads.{Post}
use Rattle.index_call.proofs.update_number.Kinds as number-kinds
use Rattle.index_call.proofs.update_number.Reads as number-reads

pub update-single : (κs : Lfts 4) (a : Dens κs kinds.ps) (r r' : Updated) (x x' : AtExit (ended_of 4 kinds.ps kinds.r) κs)
    → Post κs a r x → Post κs a r' x' → (r ≡ r') × (x.1.1.1.1.1.0.now ≡ x'.1.1.1.1.1.0.now)
update-single κs a r r' x x' p q = (p.0 ∙ sym q.0, p.1 ∙ sym q.1)

pub update-number-single : (κs : Lfts 0) (a : Dens κs number-kinds.ps) (r r' : ℕ) (x x' : AtExit (ended_of 0 number-kinds.ps number-kinds.r) κs)
    → number-reads.Post κs a r x → number-reads.Post κs a r' x' → r ≡ r'
update-number-single κs a r r' x x' p q = p ∙ sym q
