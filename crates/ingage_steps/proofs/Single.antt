-- The promises of the public steps, as the check reads them (`Post`), admit a single answer. Assumes nothing.
use mathlib.Core.Path.{◌≡◌, sym, ◌∙◌}
use mathlib.Core.List.{List}
use Prim.Native.Nat.{ℕ}
use Rattle.gage_planes_spec.specs.declared.State.{State}
use contract.Lifetimes.{Lfts}
use denote.Triple.Clauses.{AtExit}
use borrow.Fn.Kinds.{Dens, ended_of}
use Rattle.ingage_steps.proofs.start.Kinds as start-kinds
use Rattle.ingage_steps.proofs.start.Reads as start-reads
use Rattle.ingage_steps.proofs.associated_block.Kinds as associated-block-kinds
use Rattle.ingage_steps.proofs.associated_block.Reads as associated-block-reads
use Rattle.ingage_steps.proofs.after_associated.Kinds as after-associated-kinds
use Rattle.ingage_steps.proofs.after_associated.Reads as after-associated-reads
use Rattle.ingage_steps.proofs.finish.Kinds as finish-kinds
use Rattle.ingage_steps.proofs.finish.Reads as finish-reads

pub start-single : (κs : Lfts 2) (a : Dens κs start-kinds.ps) (r r' : List ℕ) (x x' : AtExit (ended_of 2 start-kinds.ps start-kinds.r) κs)
    → start-reads.Post κs a r x → start-reads.Post κs a r' x' → r ≡ r'
start-single κs a r r' x x' p q = p ∙ sym q

pub associated-block-single : (κs : Lfts 1) (a : Dens κs associated-block-kinds.ps) (r r' : List ℕ)
    (x x' : AtExit (ended_of 1 associated-block-kinds.ps associated-block-kinds.r) κs)
    → associated-block-reads.Post κs a r x → associated-block-reads.Post κs a r' x' → r ≡ r'
associated-block-single κs a r r' x x' p q = p ∙ sym q

pub after-associated-single : (κs : Lfts 0) (a : Dens κs after-associated-kinds.ps) (r r' : State)
    (x x' : AtExit (ended_of 0 after-associated-kinds.ps after-associated-kinds.r) κs)
    → after-associated-reads.Post κs a r x → after-associated-reads.Post κs a r' x' → r ≡ r'
after-associated-single κs a r r' x x' p q = p ∙ sym q

pub finish-single : (κs : Lfts 0) (a : Dens κs finish-kinds.ps) (r r' : State) (x x' : AtExit (ended_of 0 finish-kinds.ps finish-kinds.r) κs)
    → finish-reads.Post κs a r x → finish-reads.Post κs a r' x' → r ≡ r'
finish-single κs a r r' x x' p q = p ∙ sym q
