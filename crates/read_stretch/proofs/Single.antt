-- The promises of `next_span` and `next_stretch`, as the check reads them (`Post`), admit a single answer: the same places, and the
-- same bytes at the same address. Assumes nothing.
use mathlib.Core.Path.{◌≡◌, sym, ◌∙◌}
use mathlib.Core.List.{List}
use Prim.Native.Nat.{ℕ}
use contract.Lifetimes.{Lfts}
use denote.Ref.{Bor}
use denote.Triple.Clauses.{AtExit}
use borrow.Fn.Kinds.{Dens, ended_of}
use Rattle.read_stretch.specs.declared.Span.{Span}
use Rattle.read_stretch.proofs.next_span.Kinds as span-kinds
use Rattle.read_stretch.proofs.next_span.Reads as span-reads
use Rattle.read_stretch.proofs.next_stretch.Kinds as stretch-kinds
use Rattle.read_stretch.proofs.next_stretch.Reads as stretch-reads

pub next-span-single : (κs : Lfts 1) (a : Dens κs span-kinds.ps) (r r' : Span) (x x' : AtExit (ended_of 1 span-kinds.ps span-kinds.r) κs)
    → span-reads.Post κs a r x → span-reads.Post κs a r' x' → r ≡ r'
next-span-single κs a r r' x x' p q = p ∙ sym q

pub next-stretch-single : (κs : Lfts 1) (a : Dens κs stretch-kinds.ps) (r r' : Bor (List ℕ)) (x x' : AtExit (ended_of 1 stretch-kinds.ps stretch-kinds.r) κs)
    → stretch-reads.Post κs a r x → stretch-reads.Post κs a r' x' → (r.now ≡ r'.now) × (r.ref_ptr ≡ r'.ref_ptr)
next-stretch-single κs a r r' x x' p q = (p.0 ∙ sym q.0, p.1 ∙ sym q.1)
