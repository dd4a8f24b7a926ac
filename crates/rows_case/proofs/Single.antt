-- The promises of `number_in`, `end_in`, `part`, `key`, `font` and `buffer`, as the check reads them (`Post`), admit a single answer: of a part,
-- the same bytes at the same address. Assumes nothing.
use Rattle.std.proofs.Common.{◌≡◌, ℕ, List, sym, ◌∙◌, Bor}
use contract.Lifetimes.{Lfts}
use denote.Triple.Clauses.{AtExit}
use borrow.Fn.Kinds.{Dens, ended_of}
use Rattle.rows_case.proofs.number_in.Kinds as number-kinds
use Rattle.rows_case.proofs.number_in.Reads as number-reads
use Rattle.rows_case.proofs.end_in.Kinds as end-kinds
use Rattle.rows_case.proofs.end_in.Reads as end_reads
use Rattle.rows_case.proofs.part.Kinds as part-kinds
use Rattle.rows_case.proofs.part.Reads as part-reads
use Rattle.rows_case.proofs.key.Kinds as key-kinds
use Rattle.rows_case.proofs.key.Reads as key_reads
use Rattle.rows_case.proofs.font.Kinds as font-kinds
use Rattle.rows_case.proofs.font.Reads as font-reads
use Rattle.rows_case.proofs.buffer.Kinds as buffer-kinds
use Rattle.rows_case.proofs.buffer.Reads as buffer-reads

pub number-in-single : (κs : Lfts 1) (a : Dens κs number-kinds.ps) (r r' : ℕ) (x x' : AtExit (ended_of 1 number-kinds.ps number-kinds.r) κs)
    → number-reads.Post κs a r x → number-reads.Post κs a r' x' → r ≡ r'
number-in-single κs a r r' x x' p q = p ∙ sym q

pub end-in-single : (κs : Lfts 1) (a : Dens κs end-kinds.ps) (r r' : ℕ) (x x' : AtExit (ended_of 1 end-kinds.ps end-kinds.r) κs)
    → end_reads.Post κs a r x → end_reads.Post κs a r' x' → r ≡ r'
end-in-single κs a r r' x x' p q = p ∙ sym q

pub part-single : (κs : Lfts 1) (a : Dens κs part-kinds.ps) (r r' : Bor (List ℕ)) (x x' : AtExit (ended_of 1 part-kinds.ps part-kinds.r) κs)
    → part-reads.Post κs a r x → part-reads.Post κs a r' x' → (r.now ≡ r'.now) × (r.ref_ptr ≡ r'.ref_ptr)
part-single κs a r r' x x' p q = (p.0 ∙ sym q.0, p.1 ∙ sym q.1)

pub key-single : (κs : Lfts 0) (a : Dens κs key-kinds.ps) (r r' : List ℕ) (x x' : AtExit (ended_of 0 key-kinds.ps key-kinds.r) κs)
    → key_reads.Post κs a r x → key_reads.Post κs a r' x' → r ≡ r'
key-single κs a r r' x x' p q = p.0 ∙ sym q.0

pub font-single : (κs : Lfts 0) (a : Dens κs font-kinds.ps) (r r' : List ℕ) (x x' : AtExit (ended_of 0 font-kinds.ps font-kinds.r) κs)
    → font-reads.Post κs a r x → font-reads.Post κs a r' x' → r ≡ r'
font-single κs a r r' x x' p q = p.0 ∙ sym q.0

pub buffer-single : (κs : Lfts 0) (a : Dens κs buffer-kinds.ps) (r r' : List ℕ) (x x' : AtExit (ended_of 0 buffer-kinds.ps buffer-kinds.r) κs)
    → buffer-reads.Post κs a r x → buffer-reads.Post κs a r' x' → r ≡ r'
buffer-single κs a r r' x x' p q = p.0 ∙ sym q.0
