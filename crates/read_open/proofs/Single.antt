-- The promise of `open_line`, as the check reads it (`Post`), admits a single answer and a single line buffer. Assumes nothing.
use Rattle.std.specs.Prelude.{Result, ℕ}
use mathlib.Core.Path.{◌≡◌, sym, ◌∙◌}
use contract.Lifetimes.{Lfts}
use denote.Triple.Clauses.{AtExit}
use borrow.Fn.Kinds.{Dens, ended_of}
use Rattle.read_open.specs.declared.OpenFault.{OpenFault}
use Rattle.read_open.proofs.open_line.Kinds as kinds
use Rattle.read_open.proofs.open_line.Reads.{Post}

pub open-line-single : (κs : Lfts 6) (a : Dens κs kinds.ps) (r r' : Result ℕ OpenFault) (x x' : AtExit (ended_of 6 kinds.ps kinds.r) κs)
    → Post κs a r x → Post κs a r' x' → (r ≡ r') × (x.1.1.1.1.1.1.0.now ≡ x'.1.1.1.1.1.1.0.now)
open-line-single κs a r r' x x' p q = (p.0 ∙ sym q.0, p.1 ∙ sym q.1)
