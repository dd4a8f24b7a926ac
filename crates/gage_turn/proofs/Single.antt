-- The promises of `slid`, `led`, `products`, `substituted`, `turned`, `turned_around`, `drawn_out`, `cut`, `grown` and `taken`, as the check reads them
-- (`Post`), admit a single answer. Assumes nothing.
use mathlib.Core.Path.{◌≡◌, sym, ◌∙◌}
use Prim.Native.Nat.{ℕ}
use Rattle.gage_planes_spec.specs.declared.Planes.{Planes}
use contract.Lifetimes.{Lfts}
use denote.Triple.Clauses.{AtExit}
use borrow.Fn.Kinds.{Dens, ended_of}
use Rattle.gage_turn.proofs.slid.Kinds as slid-kinds
use Rattle.gage_turn.proofs.slid.Reads as slid-reads
use Rattle.gage_turn.proofs.led.Kinds as led-kinds
use Rattle.gage_turn.proofs.led.Reads as led-reads
use Rattle.gage_turn.proofs.products.Kinds as products-kinds
use Rattle.gage_turn.proofs.products.Reads as products-reads
use Rattle.gage_turn.proofs.substituted.Kinds as substituted-kinds
use Rattle.gage_turn.proofs.substituted.Reads as substituted-reads
use Rattle.gage_turn.proofs.turned.Kinds as turned-kinds
use Rattle.gage_turn.proofs.turned.Reads as turned-reads
use Rattle.gage_turn.proofs.turned_around.Kinds as turned-around-kinds
use Rattle.gage_turn.proofs.turned_around.Reads as turned-around-reads
use Rattle.gage_turn.proofs.drawn_out.Kinds as drawn-out-kinds
use Rattle.gage_turn.proofs.drawn_out.Reads as drawn-out-reads
use Rattle.gage_turn.proofs.cut.Kinds as cut-kinds
use Rattle.gage_turn.proofs.cut.Reads as cut-reads
use Rattle.gage_turn.proofs.grown.Kinds as grown-kinds
use Rattle.gage_turn.proofs.grown.Reads as grown-reads
use Rattle.gage_turn.proofs.taken.Kinds as taken-kinds
use Rattle.gage_turn.proofs.taken.Reads as taken-reads

pub slid-single : (κs : Lfts 0) (a : Dens κs slid-kinds.ps) (r r' : Planes) (x x' : AtExit (ended_of 0 slid-kinds.ps slid-kinds.r) κs)
    → slid-reads.Post κs a r x → slid-reads.Post κs a r' x' → r ≡ r'
slid-single κs a r r' x x' p q = p ∙ sym q

pub led-single : (κs : Lfts 0) (a : Dens κs led-kinds.ps) (r r' : ℕ) (x x' : AtExit (ended_of 0 led-kinds.ps led-kinds.r) κs)
    → led-reads.Post κs a r x → led-reads.Post κs a r' x' → r ≡ r'
led-single κs a r r' x x' p q = p ∙ sym q

pub products-single : (κs : Lfts 0) (a : Dens κs products-kinds.ps) (r r' : Planes) (x x' : AtExit (ended_of 0 products-kinds.ps products-kinds.r) κs)
    → products-reads.Post κs a r x → products-reads.Post κs a r' x' → r ≡ r'
products-single κs a r r' x x' p q = p ∙ sym q

pub substituted-single : (κs : Lfts 0) (a : Dens κs substituted-kinds.ps) (r r' : Planes)
    (x x' : AtExit (ended_of 0 substituted-kinds.ps substituted-kinds.r) κs)
    → substituted-reads.Post κs a r x → substituted-reads.Post κs a r' x' → r ≡ r'
substituted-single κs a r r' x x' p q = p ∙ sym q

pub turned-single : (κs : Lfts 0) (a : Dens κs turned-kinds.ps) (r r' : Planes) (x x' : AtExit (ended_of 0 turned-kinds.ps turned-kinds.r) κs)
    → turned-reads.Post κs a r x → turned-reads.Post κs a r' x' → r ≡ r'
turned-single κs a r r' x x' p q = p ∙ sym q

pub turned-around-single : (κs : Lfts 0) (a : Dens κs turned-around-kinds.ps) (r r' : Planes)
    (x x' : AtExit (ended_of 0 turned-around-kinds.ps turned-around-kinds.r) κs)
    → turned-around-reads.Post κs a r x → turned-around-reads.Post κs a r' x' → r ≡ r'
turned-around-single κs a r r' x x' p q = p ∙ sym q

pub drawn-out-single : (κs : Lfts 0) (a : Dens κs drawn-out-kinds.ps) (r r' : Planes) (x x' : AtExit (ended_of 0 drawn-out-kinds.ps drawn-out-kinds.r) κs)
    → drawn-out-reads.Post κs a r x → drawn-out-reads.Post κs a r' x' → r ≡ r'
drawn-out-single κs a r r' x x' p q = p ∙ sym q

pub cut-single : (κs : Lfts 0) (a : Dens κs cut-kinds.ps) (r r' : Planes) (x x' : AtExit (ended_of 0 cut-kinds.ps cut-kinds.r) κs)
    → cut-reads.Post κs a r x → cut-reads.Post κs a r' x' → r ≡ r'
cut-single κs a r r' x x' p q = p ∙ sym q

pub grown-single : (κs : Lfts 0) (a : Dens κs grown-kinds.ps) (r r' : ℕ) (x x' : AtExit (ended_of 0 grown-kinds.ps grown-kinds.r) κs)
    → grown-reads.Post κs a r x → grown-reads.Post κs a r' x' → r ≡ r'
grown-single κs a r r' x x' p q = p ∙ sym q

pub taken-single : (κs : Lfts 0) (a : Dens κs taken-kinds.ps) (r r' : ℕ) (x x' : AtExit (ended_of 0 taken-kinds.ps taken-kinds.r) κs)
    → taken-reads.Post κs a r x → taken-reads.Post κs a r' x' → r ≡ r'
taken-single κs a r r' x x' p q = p ∙ sym q
