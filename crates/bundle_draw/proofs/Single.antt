-- The promises of `show` and `make` and of their numbers, as the check reads them (`Post`), admit a single answer. Assumes nothing.
use Rattle.std.specs.Prelude.{Result}
use mathlib.Core.Path.{◌≡◌, sym, ◌∙◌}
use Prim.Native.Nat.{ℕ}
use contract.Lifetimes.{Lfts}
use denote.Triple.Clauses.{AtExit}
use borrow.Fn.Kinds.{Dens, ended_of}
use Rattle.bundle_draw.specs.declared.ShowRefusal.{ShowRefusal}
use Rattle.bundle_draw.specs.declared.DrawingFault.{DrawingFault}
use Rattle.bundle_draw.proofs.show.Kinds as show-kinds
use Rattle.bundle_draw.proofs.show.Reads as show-reads
use Rattle.bundle_draw.proofs.make.Kinds as make-kinds
use Rattle.bundle_draw.proofs.make.Reads as make-reads
use Rattle.bundle_draw.proofs.show_number.Kinds as show-number-kinds
use Rattle.bundle_draw.proofs.show_number.Reads as show-number-reads
use Rattle.bundle_draw.proofs.show_length.Kinds as show-length-kinds
use Rattle.bundle_draw.proofs.show_length.Reads as show-length-reads
use Rattle.bundle_draw.proofs.make_number.Kinds as make-number-kinds
use Rattle.bundle_draw.proofs.make_number.Reads as make-number-reads
use Rattle.bundle_draw.proofs.make_length.Kinds as make-length-kinds
use Rattle.bundle_draw.proofs.make_length.Reads as make-length-reads
use Rattle.bundle_draw.proofs.make_row.Kinds as make-row-kinds
use Rattle.bundle_draw.proofs.make_row.Reads as make-row-reads

pub show-single : (κs : Lfts 2) (a : Dens κs show-kinds.ps) (r r' : Result ℕ ShowRefusal) (x x' : AtExit (ended_of 2 show-kinds.ps show-kinds.r) κs)
    → show-reads.Post κs a r x → show-reads.Post κs a r' x' → (r ≡ r') × (x.1.0.now ≡ x'.1.0.now)
show-single κs a r r' x x' p q = (p.0 ∙ sym q.0, p.1 ∙ sym q.1)

pub make-single : (κs : Lfts 2) (a : Dens κs make-kinds.ps) (r r' : Result ℕ DrawingFault) (x x' : AtExit (ended_of 2 make-kinds.ps make-kinds.r) κs)
    → make-reads.Post κs a r x → make-reads.Post κs a r' x' → (r ≡ r') × (x.1.0.now ≡ x'.1.0.now)
make-single κs a r r' x x' p q = (p.0 ∙ sym q.0, p.1 ∙ sym q.1)

-- numbers, lengths and the row
pub show-number-single : (κs : Lfts 0) (a : Dens κs show-number-kinds.ps) (r r' : ℕ) (x x' : AtExit (ended_of 0 show-number-kinds.ps show-number-kinds.r) κs)
    → show-number-reads.Post κs a r x → show-number-reads.Post κs a r' x' → r ≡ r'
show-number-single κs a r r' x x' p q = p ∙ sym q

pub show-length-single : (κs : Lfts 0) (a : Dens κs show-length-kinds.ps) (r r' : ℕ) (x x' : AtExit (ended_of 0 show-length-kinds.ps show-length-kinds.r) κs)
    → show-length-reads.Post κs a r x → show-length-reads.Post κs a r' x' → r ≡ r'
show-length-single κs a r r' x x' p q = p ∙ sym q

pub make-number-single : (κs : Lfts 0) (a : Dens κs make-number-kinds.ps) (r r' : ℕ) (x x' : AtExit (ended_of 0 make-number-kinds.ps make-number-kinds.r) κs)
    → make-number-reads.Post κs a r x → make-number-reads.Post κs a r' x' → r ≡ r'
make-number-single κs a r r' x x' p q = p ∙ sym q

pub make-length-single : (κs : Lfts 0) (a : Dens κs make-length-kinds.ps) (r r' : ℕ) (x x' : AtExit (ended_of 0 make-length-kinds.ps make-length-kinds.r) κs)
    → make-length-reads.Post κs a r x → make-length-reads.Post κs a r' x' → r ≡ r'
make-length-single κs a r r' x x' p q = p ∙ sym q

pub make-row-single : (κs : Lfts 0) (a : Dens κs make-row-kinds.ps) (r r' : ℕ) (x x' : AtExit (ended_of 0 make-row-kinds.ps make-row-kinds.r) κs)
    → make-row-reads.Post κs a r x → make-row-reads.Post κs a r' x' → r ≡ r'
make-row-single κs a r r' x x' p q = p ∙ sym q
