-- `Accepts` and `Tells` are the contracts of `accept` and `nonce_of` as the check reads them (`Post`): whatever a proved call gives, what this crate states
-- of them holds of it. Assumes nothing.
use contract.Lifetimes.{Lfts}
use denote.Triple.Clauses.{AtExit}
use borrow.Fn.Kinds.{Dens, ended_of}
use Rattle.read_nonce.specs.declared.Nonce.{Nonce}
use Rattle.read_nonce.proofs.nonce_of.Kinds as nonce-kinds
use Rattle.read_nonce.proofs.nonce_of.Reads as nonce-reads
use Rattle.accept_spec.specs.declared.Accepted.{Accepted}
use Rattle.accept_call.proofs.accept.Kinds as accept-kinds
use Rattle.accept_call.proofs.accept.Reads as accept-reads
use Rattle.accept_runs.specs.Promises.{Accepts, Tells}

-- the arguments are stream, key, font digest, editions and layout
pub accept-promises : (κs : Lfts 3) (a : Dens κs accept-kinds.ps) (r : Accepted) (x : AtExit (ended_of 3 accept-kinds.ps accept-kinds.r) κs)
    → accept-reads.Post κs a r x → Accepts a.1.0.now a.1.1.0.now a.1.1.1.0 a.1.1.1.1.0 a.0.now r
accept-promises κs a r x p = p

pub nonce-promises : (κs : Lfts 1) (a : Dens κs nonce-kinds.ps) (n : Nonce) (x : AtExit (ended_of 1 nonce-kinds.ps nonce-kinds.r) κs)
    → nonce-reads.Post κs a n x → Tells a.0.now n
nonce-promises κs a n x p = p
