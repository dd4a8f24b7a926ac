-- The promises of `seal` and `open`, as the check reads them (`Post`), admit a single answer, and single contents of the buffers lent.
-- Assumes nothing.
use Rattle.std.specs.Prelude.{Result, ℕ}
use mathlib.Core.Path.{◌≡◌, sym, ◌∙◌}
use contract.Lifetimes.{Lfts}
use denote.Triple.Clauses.{AtExit}
use borrow.Fn.Kinds.{Dens, ended_of}
use Rattle.ingage_answers.specs.declared.SealRefusal.{SealRefusal}
use Rattle.ingage_answers.specs.declared.OpenRefusal.{OpenRefusal}
use Rattle.ingage_call.proofs.seal.Kinds as seal-kinds
use Rattle.ingage_call.proofs.seal.Reads as seal-reads
use Rattle.ingage_call.proofs.open.Kinds as open-kinds
use Rattle.ingage_call.proofs.open.Reads as open-reads

pub seal-single : (κs : Lfts 6) (a : Dens κs seal-kinds.ps) (r r' : Result ℕ SealRefusal) (x x' : AtExit (ended_of 6 seal-kinds.ps seal-kinds.r) κs)
    → seal-reads.Post κs a r x → seal-reads.Post κs a r' x'
    → (r ≡ r') × (x.1.1.1.1.1.0.now ≡ x'.1.1.1.1.1.0.now) × (x.1.1.1.1.1.1.0.now ≡ x'.1.1.1.1.1.1.0.now)
seal-single κs a r r' x x' p q = (p.0 ∙ sym q.0, p.1.0 ∙ sym q.1.0, p.1.1 ∙ sym q.1.1)

pub open-single : (κs : Lfts 6) (a : Dens κs open-kinds.ps) (r r' : Result ℕ OpenRefusal) (x x' : AtExit (ended_of 6 open-kinds.ps open-kinds.r) κs)
    → open-reads.Post κs a r x → open-reads.Post κs a r' x'
    → (r ≡ r') × (x.1.1.1.1.1.1.0.now ≡ x'.1.1.1.1.1.1.0.now)
open-single κs a r r' x x' p q = (p.0 ∙ sym q.0, p.1 ∙ sym q.1)
