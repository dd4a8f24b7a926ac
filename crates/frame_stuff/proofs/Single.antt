-- The promises of `unstuff` and `stuff`, as the check reads them (`Post`), admit a single answer. Assumes nothing.
use Rattle.std.specs.Prelude.{Result, ℕ}
use mathlib.Core.Path.{◌≡◌, sym, ◌∙◌}
use contract.Lifetimes.{Lfts}
use denote.Triple.Clauses.{AtExit}
use borrow.Fn.Kinds.{Dens, ended_of}
use Rattle.frame_stuff_spec.specs.declared.UnstuffFault.{UnstuffFault}
use Rattle.frame_stuff_spec.specs.declared.StuffRefusal.{StuffRefusal}
use Rattle.frame_stuff.proofs.unstuff.Kinds as unstuff-kinds
use Rattle.frame_stuff.proofs.unstuff.Reads as unstuff-reads
use Rattle.frame_stuff.proofs.stuff.Kinds as stuff-kinds
use Rattle.frame_stuff.proofs.stuff.Reads as stuff-reads

pub unstuff-single : (κs : Lfts 2) (a : Dens κs unstuff-kinds.ps) (r r' : Result ℕ UnstuffFault) (x x' : AtExit (ended_of 2 unstuff-kinds.ps unstuff-kinds.r) κs)
    → unstuff-reads.Post κs a r x → unstuff-reads.Post κs a r' x' → (r ≡ r') × (x.1.0.now ≡ x'.1.0.now)
unstuff-single κs a r r' x x' p q = (p.0 ∙ sym q.0, p.1 ∙ sym q.1)

pub stuff-single : (κs : Lfts 2) (a : Dens κs stuff-kinds.ps) (r r' : Result ℕ StuffRefusal) (x x' : AtExit (ended_of 2 stuff-kinds.ps stuff-kinds.r) κs)
    → stuff-reads.Post κs a r x → stuff-reads.Post κs a r' x' → (r ≡ r') × (x.1.0.now ≡ x'.1.0.now)
stuff-single κs a r r' x x' p q = (p.0 ∙ sym q.0, p.1 ∙ sym q.1)
