-- The promise of `nonce_of`, as the check reads it (`Post`), admits a single answer. Assumes nothing.
use mathlib.Core.Path.{◌≡◌, sym, ◌∙◌}
use contract.Lifetimes.{Lfts}
use denote.Triple.Clauses.{AtExit}
use borrow.Fn.Kinds.{Dens, ended_of}
use Rattle.read_nonce.specs.declared.Nonce.{Nonce}
use Rattle.read_nonce.proofs.nonce_of.Kinds as kinds
use Rattle.read_nonce.proofs.nonce_of.Reads.{Post}

pub nonce-of-single : (κs : Lfts 1) (a : Dens κs kinds.ps) (r r' : Nonce) (x x' : AtExit (ended_of 1 kinds.ps kinds.r) κs) → Post κs a r x → Post κs a r' x'
    → r ≡ r'
nonce-of-single κs a r r' x x' p q = p ∙ sym q
