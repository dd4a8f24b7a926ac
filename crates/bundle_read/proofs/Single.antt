-- The promise of `read`, as the check reads it (`Post`), admits a single answer. Assumes nothing.
use Rattle.std.specs.Prelude.{Result, ℕ}
use mathlib.Core.Path.{◌≡◌, sym, ◌∙◌}
use contract.Lifetimes.{Lfts}
use denote.Triple.Clauses.{AtExit}
use borrow.Fn.Kinds.{Dens, ended_of}
use Rattle.bundle_read.specs.declared.BundleFault.{BundleFault}
use Rattle.bundle_read.proofs.read.Kinds as read-kinds
use Rattle.bundle_read.proofs.read.Reads as read-reads

pub read-single : (κs : Lfts 1) (a : Dens κs read-kinds.ps) (r r' : Result ℕ BundleFault) (x x' : AtExit (ended_of 1 read-kinds.ps read-kinds.r) κs)
    → read-reads.Post κs a r x → read-reads.Post κs a r' x' → r ≡ r'
read-single κs a r r' x x' p q = p ∙ sym q
