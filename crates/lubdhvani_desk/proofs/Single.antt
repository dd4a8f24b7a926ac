-- The promise of `lubdhvani_desk_copy`, as the check reads it (`Post`), admits a single answer and a single output. Assumes nothing.
use mathlib.Core.Path.{◌≡◌, sym, ◌∙◌}
use contract.Lifetimes.{Lfts}
use denote.Triple.Clauses.{AtExit}
use borrow.Fn.Kinds.{Dens, ended_of}
use Rattle.lubdhvani_desk.specs.declared.Reworked.{Reworked}
use Rattle.lubdhvani_desk.proofs.lubdhvani_desk_copy.Kinds as kinds
use Rattle.lubdhvani_desk.proofs.lubdhvani_desk_copy.Reads.{Post}

pub lubdhvani-desk-copy-single : (κs : Lfts 6) (a : Dens κs kinds.ps) (r r' : Reworked) (x x' : AtExit (ended_of 6 kinds.ps kinds.r) κs)
    → Post κs a r x → Post κs a r' x' → (r ≡ r') × (x.1.1.1.1.1.1.1.1.0.now ≡ x'.1.1.1.1.1.1.1.1.0.now)
lubdhvani-desk-copy-single κs a r r' x x' p q = (p.0 ∙ sym q.0, p.1 ∙ sym q.1)
