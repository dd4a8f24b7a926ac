-- The promise of `request`, as the check reads it (`Post`), admits a single answer. Assumes nothing.
use mathlib.Core.Path.{◌≡◌, sym, ◌∙◌}
use contract.Lifetimes.{Lfts}
use denote.Triple.Clauses.{AtExit}
use borrow.Fn.Kinds.{Dens, ended_of}
use Rattle.replay_request.specs.declared.Reached.{Reached}
use Rattle.replay_request.proofs.request.Kinds as kinds
use Rattle.replay_request.proofs.request.Reads.{Post}

pub request-single : (κs : Lfts 3) (a : Dens κs kinds.ps) (r r' : Reached) (x x' : AtExit (ended_of 3 kinds.ps kinds.r) κs)
    → Post κs a r x → Post κs a r' x' → r ≡ r'
request-single κs a r r' x x' p q = p ∙ sym q
