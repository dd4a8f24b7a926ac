-- The promises of `other`, `only`, `misnamed` and `line_in`, as the check reads them (`Post`), admit a single answer, and that of `line_in` a single
-- buffer. Assumes nothing.
use mathlib.Core.Path.{◌≡◌, sym, ◌∙◌}
use mathlib.Core.Bool.{Bool}
use Prim.Native.Nat.{ℕ}
use contract.Lifetimes.{Lfts}
use denote.Triple.Clauses.{AtExit}
use borrow.Fn.Kinds.{Dens, ended_of}
use Rattle.frame_body.specs.declared.Edition.{Edition}
use Rattle.convert_spec.specs.declared.Found.{Found}
use Rattle.convert_find.proofs.other.Kinds as other-kinds
use Rattle.convert_find.proofs.other.Reads as other-reads
use Rattle.convert_find.proofs.only.Kinds as only-kinds
use Rattle.convert_find.proofs.only.Reads as only-reads
use Rattle.convert_find.proofs.misnamed.Kinds as misnamed-kinds
use Rattle.convert_find.proofs.misnamed.Reads as misnamed-reads
use Rattle.convert_find.proofs.line_in.Kinds as line-kinds
use Rattle.convert_find.proofs.line_in.Reads as line_reads_lem

pub line-in-single : (κs : Lfts 4) (a : Dens κs line-kinds.ps) (r r' : Found) (x x' : AtExit (ended_of 4 line-kinds.ps line-kinds.r) κs)
    → line_reads_lem.Post κs a r x → line_reads_lem.Post κs a r' x' → (r ≡ r') × (x.1.1.1.1.1.0.now ≡ x'.1.1.1.1.1.0.now)
line-in-single κs a r r' x x' p q = (p.0 ∙ sym q.0, p.1 ∙ sym q.1)

pub other-single : (κs : Lfts 0) (a : Dens κs other-kinds.ps) (r r' : Edition) (x x' : AtExit (ended_of 0 other-kinds.ps other-kinds.r) κs)
    → other-reads.Post κs a r x → other-reads.Post κs a r' x' → r ≡ r'
other-single κs a r r' x x' p q = p ∙ sym q

pub only-single : (κs : Lfts 0) (a : Dens κs only-kinds.ps) (r r' : ℕ) (x x' : AtExit (ended_of 0 only-kinds.ps only-kinds.r) κs)
    → only-reads.Post κs a r x → only-reads.Post κs a r' x' → r ≡ r'
only-single κs a r r' x x' p q = p ∙ sym q

pub misnamed-single : (κs : Lfts 1) (a : Dens κs misnamed-kinds.ps) (r r' : Bool) (x x' : AtExit (ended_of 1 misnamed-kinds.ps misnamed-kinds.r) κs)
    → misnamed-reads.Post κs a r x → misnamed-reads.Post κs a r' x' → r ≡ r'
misnamed-single κs a r r' x x' p q = p ∙ sym q
