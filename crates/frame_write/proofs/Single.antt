-- The promises of `sizes_right`, `write_edition`, `write` and `write_two`, as the check reads them (`Post`), admit a single answer. Assumes nothing.
use Rattle.std.specs.Prelude.{Result}
use mathlib.Core.Path.{◌≡◌, sym, ◌∙◌}
use mathlib.Core.Bool.{Bool}
use Prim.Native.Nat.{ℕ}
use contract.Lifetimes.{Lfts}
use denote.Triple.Clauses.{AtExit}
use borrow.Fn.Kinds.{Dens, ended_of}
use Rattle.frame_write.specs.declared.Written.{Written}
use Rattle.frame_write.specs.declared.FrameRefusal.{FrameRefusal}
use Rattle.frame_write.proofs.sizes_right.Kinds as sizes-kinds
use Rattle.frame_write.proofs.sizes_right.Reads as sizes-reads
use Rattle.frame_write.proofs.write_edition.Kinds as edition-kinds
use Rattle.frame_write.proofs.write_edition.Reads as edition-reads
use Rattle.frame_write.proofs.write.Kinds as write-kinds
use Rattle.frame_write.proofs.write.Reads as write-reads
use Rattle.frame_write.proofs.write_two.Kinds as two-kinds
use Rattle.frame_write.proofs.write_two.Reads as two-reads
use Rattle.frame_write.proofs.write_number.Kinds as write-number-kinds
use Rattle.frame_write.proofs.write_number.Reads as write-number-reads
use Rattle.frame_write.proofs.write_length.Kinds as write-length-kinds
use Rattle.frame_write.proofs.write_length.Reads as write-length-reads
use Rattle.frame_write.proofs.write_count.Kinds as write-count-kinds
use Rattle.frame_write.proofs.write_count.Reads as write-count-reads

pub sizes-right-single : (κs : Lfts 4) (a : Dens κs sizes-kinds.ps) (r r' : Bool) (x x' : AtExit (ended_of 4 sizes-kinds.ps sizes-kinds.r) κs)
    → sizes-reads.Post κs a r x → sizes-reads.Post κs a r' x' → r ≡ r'
sizes-right-single κs a r r' x x' p q = p ∙ sym q

pub write-edition-single : (κs : Lfts 6) (a : Dens κs edition-kinds.ps) (r r' : Result Written FrameRefusal) (x x' : AtExit (ended_of 6 edition-kinds.ps edition-kinds.r) κs)
    → edition-reads.Post κs a r x → edition-reads.Post κs a r' x' → (r ≡ r') × (x.1.1.1.1.1.1.1.0.now ≡ x'.1.1.1.1.1.1.1.0.now)
write-edition-single κs a r r' x x' p q = (p.0 ∙ sym q.0, p.1 ∙ sym q.1)

pub write-single : (κs : Lfts 5) (a : Dens κs write-kinds.ps) (r r' : Result Written FrameRefusal) (x x' : AtExit (ended_of 5 write-kinds.ps write-kinds.r) κs)
    → write-reads.Post κs a r x → write-reads.Post κs a r' x' → (r ≡ r') × (x.1.1.1.1.1.0.now ≡ x'.1.1.1.1.1.0.now)
write-single κs a r r' x x' p q = (p.0 ∙ sym q.0, p.1 ∙ sym q.1)

pub write-two-single : (κs : Lfts 6) (a : Dens κs two-kinds.ps) (r r' : Result Written FrameRefusal) (x x' : AtExit (ended_of 6 two-kinds.ps two-kinds.r) κs)
    → two-reads.Post κs a r x → two-reads.Post κs a r' x' → (r ≡ r') × (x.1.1.1.1.1.1.0.now ≡ x'.1.1.1.1.1.1.0.now)
write-two-single κs a r r' x x' p q = (p.0 ∙ sym q.0, p.1 ∙ sym q.1)

pub write-number-single : (κs : Lfts 0) (a : Dens κs write-number-kinds.ps) (r r' : ℕ) (x x' : AtExit (ended_of 0 write-number-kinds.ps write-number-kinds.r) κs)
    → write-number-reads.Post κs a r x → write-number-reads.Post κs a r' x' → r ≡ r'
write-number-single κs a r r' x x' p q = p ∙ sym q

pub write-length-single : (κs : Lfts 0) (a : Dens κs write-length-kinds.ps) (r r' : ℕ) (x x' : AtExit (ended_of 0 write-length-kinds.ps write-length-kinds.r) κs)
    → write-length-reads.Post κs a r x → write-length-reads.Post κs a r' x' → r ≡ r'
write-length-single κs a r r' x x' p q = p ∙ sym q

pub write-count-single : (κs : Lfts 0) (a : Dens κs write-count-kinds.ps) (r r' : ℕ) (x x' : AtExit (ended_of 0 write-count-kinds.ps write-count-kinds.r) κs)
    → write-count-reads.Post κs a r x → write-count-reads.Post κs a r' x' → r ≡ r'
write-count-single κs a r r' x x' p q = p ∙ sym q
