-- The promises of `words_of` and `met`, as the check reads them (`Post`), admit a single answer. Assumes nothing.
use mathlib.Core.Path.{◌≡◌, sym, ◌∙◌}
use mathlib.Core.Bool.{Bool}
use contract.Lifetimes.{Lfts}
use denote.Triple.Clauses.{AtExit}
use borrow.Fn.Kinds.{Dens, ended_of}
use Rattle.accept_nonces.specs.declared.Words.{Words}
use Rattle.accept_nonces.proofs.words_of.Kinds as words-kinds
use Rattle.accept_nonces.proofs.words_of.Reads as words-reads
use Rattle.accept_nonces.proofs.met.Kinds as met-kinds
use Rattle.accept_nonces.proofs.met.Reads as met-reads

pub words-of-single : (κs : Lfts 0) (a : Dens κs words-kinds.ps) (r r' : Words) (x x' : AtExit (ended_of 0 words-kinds.ps words-kinds.r) κs)
    → words-reads.Post κs a r x → words-reads.Post κs a r' x' → r ≡ r'
words-of-single κs a r r' x x' p q = p ∙ sym q

pub met-single : (κs : Lfts 2) (a : Dens κs met-kinds.ps) (r r' : Bool) (x x' : AtExit (ended_of 2 met-kinds.ps met-kinds.r) κs)
    → met-reads.Post κs a r x → met-reads.Post κs a r' x' → r ≡ r'
met-single κs a r r' x x' p q = p ∙ sym q
