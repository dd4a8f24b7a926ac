-- The promises of the C calls that accept a stream and tell a nonce, as the check reads them (`Post`), admit a single answer. Assumes nothing.
use mathlib.Core.Path.{◌≡◌, sym, ◌∙◌}
use contract.Lifetimes.{Lfts}
use denote.Triple.Clauses.{AtExit}
use borrow.Fn.Kinds.{Dens, ended_of}
use Rattle.read_nonce.specs.declared.Nonce.{Nonce}
use Rattle.lubdhvani.specs.declared.accept.Accepted.{Accepted}
use Rattle.lubdhvani.proofs.accept.lubdhvani_accept.Kinds as accept-kinds
use Rattle.lubdhvani.proofs.accept.lubdhvani_accept.Reads as accept-reads
use Rattle.lubdhvani.proofs.accept.lubdhvani_nonce.Kinds as nonce-kinds
use Rattle.lubdhvani.proofs.accept.lubdhvani_nonce.Reads as nonce-reads

pub lubdhvani-accept-single : (κs : Lfts 3) (a : Dens κs accept-kinds.ps) (r r' : Accepted) (x x' : AtExit (ended_of 3 accept-kinds.ps accept-kinds.r) κs)
    → accept-reads.Post κs a r x → accept-reads.Post κs a r' x' → r ≡ r'
lubdhvani-accept-single κs a r r' x x' p q = p ∙ sym q

pub lubdhvani-nonce-single : (κs : Lfts 1) (a : Dens κs nonce-kinds.ps) (r r' : Nonce) (x x' : AtExit (ended_of 1 nonce-kinds.ps nonce-kinds.r) κs)
    → nonce-reads.Post κs a r x → nonce-reads.Post κs a r' x' → r ≡ r'
lubdhvani-nonce-single κs a r r' x x' p q = p ∙ sym q
