-- The promises of `is_key` and `digest_font`, as the check reads them (`Post`), admit a single answer. Assumes nothing.
use mathlib.Core.Path.{◌≡◌, sym, ◌∙◌}
use mathlib.Core.Bool.{Bool}
use contract.Lifetimes.{Lfts}
use denote.Triple.Clauses.{AtExit}
use borrow.Fn.Kinds.{Dens, ended_of}
use Rattle.tool_key_font.proofs.is_key.Kinds as key-kinds
use Rattle.tool_key_font.proofs.is_key.Reads as key_reads
use Rattle.tool_key_font.proofs.digest_font.Kinds as font-kinds
use Rattle.tool_key_font.proofs.digest_font.Reads as font-reads

pub is-key-single : (κs : Lfts 0) (a : Dens κs key-kinds.ps) (r r' : Bool) (x x' : AtExit (ended_of 0 key-kinds.ps key-kinds.r) κs)
    → key_reads.Post κs a r x → key_reads.Post κs a r' x' → r ≡ r'
is-key-single κs a r r' x x' p q = p ∙ sym q

pub digest-font-single : (κs : Lfts 2) (a : Dens κs font-kinds.ps) (r r' : Bool) (x x' : AtExit (ended_of 2 font-kinds.ps font-kinds.r) κs)
    → font-reads.Post κs a r x → font-reads.Post κs a r' x' → (r ≡ r') × (x.1.1.0.now ≡ x'.1.1.0.now)
digest-font-single κs a r r' x x' p q = (p.0 ∙ sym q.0, p.1 ∙ sym q.1)
