-- The promises of `put_body` and `put_associated`, as the check reads them (`Post`), admit a single answer. Assumes nothing.
use Rattle.std.specs.Prelude.{Result, ℕ}
use mathlib.Core.Path.{◌≡◌, sym, ◌∙◌}
use contract.Lifetimes.{Lfts}
use denote.Triple.Clauses.{AtExit}
use borrow.Fn.Kinds.{Dens, ended_of}
use Rattle.frame_put.specs.declared.PutRefusal.{PutRefusal}
use Rattle.frame_put.proofs.put_body.Kinds as put-kinds
use Rattle.frame_put.proofs.put_body.Reads as put_reads
use Rattle.frame_put.proofs.put_associated.Kinds as associated-kinds
use Rattle.frame_put.proofs.put_associated.Reads as associated-reads

pub put-body-single : (κs : Lfts 6) (a : Dens κs put-kinds.ps) (r r' : Result ℕ PutRefusal) (x x' : AtExit (ended_of 6 put-kinds.ps put-kinds.r) κs)
    → put_reads.Post κs a r x → put_reads.Post κs a r' x' → (r ≡ r') × (x.1.1.1.1.1.1.0.now ≡ x'.1.1.1.1.1.1.0.now)
put-body-single κs a r r' x x' p q = (p.0 ∙ sym q.0, p.1 ∙ sym q.1)

pub put-associated-single : (κs : Lfts 3) (a : Dens κs associated-kinds.ps) (r r' : Result ℕ PutRefusal) (x x' : AtExit (ended_of 3 associated-kinds.ps associated-kinds.r) κs)
    → associated-reads.Post κs a r x → associated-reads.Post κs a r' x' → (r ≡ r') × (x.1.1.1.0.now ≡ x'.1.1.1.0.now)
put-associated-single κs a r r' x x' p q = (p.0 ∙ sym q.0, p.1 ∙ sym q.1)
