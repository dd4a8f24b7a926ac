-- The promises of `substitute` and `restore`, as the check reads them (`Post`), admit a single answer. Assumes nothing.
use mathlib.Core.Path.{◌≡◌, sym, ◌∙◌}
use mathlib.Core.List.{List}
use Prim.Native.Nat.{ℕ}
use contract.Lifetimes.{Lfts}
use denote.Triple.Clauses.{AtExit}
use borrow.Fn.Kinds.{Dens, ended_of}
use Rattle.gage_substitute.proofs.substitute.Kinds as substitute-kinds
use Rattle.gage_substitute.proofs.substitute.Reads as substitute-reads
use Rattle.gage_substitute.proofs.restore.Kinds as restore-kinds
use Rattle.gage_substitute.proofs.restore.Reads as restore-reads

pub substitute-single : (κs : Lfts 0) (a : Dens κs substitute-kinds.ps) (r r' : List ℕ) (x x' : AtExit (ended_of 0 substitute-kinds.ps substitute-kinds.r) κs)
    → substitute-reads.Post κs a r x → substitute-reads.Post κs a r' x' → r ≡ r'
substitute-single κs a r r' x x' p q = p ∙ sym q

pub restore-single : (κs : Lfts 0) (a : Dens κs restore-kinds.ps) (r r' : List ℕ) (x x' : AtExit (ended_of 0 restore-kinds.ps restore-kinds.r) κs)
    → restore-reads.Post κs a r x → restore-reads.Post κs a r' x' → r ≡ r'
restore-single κs a r r' x x' p q = p ∙ sym q
