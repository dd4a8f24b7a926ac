-- The promise of `sizes_of`, as the check reads it (`Post`), admits a single answer. Assumes nothing.
use Rattle.std.specs.Prelude.{Option}
use mathlib.Core.Path.{◌≡◌, sym, ◌∙◌}
use contract.Lifetimes.{Lfts}
use denote.Triple.Clauses.{AtExit}
use borrow.Fn.Kinds.{Dens, ended_of}
use Rattle.ingage_spec.specs.declared.Instance.{Instance}
use Rattle.ingage_table.proofs.sizes_of.Kinds as kinds
use Rattle.ingage_table.proofs.sizes_of.Reads as reads

pub sizes-of-single : (κs : Lfts 0) (a : Dens κs kinds.ps) (r r' : Option Instance) (x x' : AtExit (ended_of 0 kinds.ps kinds.r) κs)
    → reads.Post κs a r x → reads.Post κs a r' x' → r ≡ r'
sizes-of-single κs a r r' x x' p q = p ∙ sym q
