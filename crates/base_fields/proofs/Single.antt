-- The promise of `put_field`, as the check reads it (`Post`), admits a single answer and a single buffer. Assumes nothing.
use mathlib.Core.Path.{◌≡◌, sym, ◌∙◌}
use Prim.Native.Nat.{ℕ}
use contract.Lifetimes.{Lfts}
use denote.Triple.Clauses.{AtExit}
use borrow.Fn.Kinds.{Dens, ended_of}
use Rattle.base_fields.proofs.put_field.Kinds as kinds
use Rattle.base_fields.proofs.put_field.Reads as reads

pub put-field-single : (κs : Lfts 2) (a : Dens κs kinds.ps) (r r' : ℕ) (x x' : AtExit (ended_of 2 kinds.ps kinds.r) κs)
    → reads.Post κs a r x → reads.Post κs a r' x' → (r ≡ r') × (x.0.now ≡ x'.0.now)
put-field-single κs a r r' x x' p q = (p.0 ∙ sym q.0, p.1 ∙ sym q.1)
