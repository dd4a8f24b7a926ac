-- The promises of `convert`, `to_one`, `to_two`, `number` and `frame_length`, as the check reads them (`Post`), admit a single answer. Assumes nothing.
use Rattle.std.specs.Prelude.{Result}
use mathlib.Core.Path.{◌≡◌, sym, ◌∙◌}
use Prim.Native.Nat.{ℕ}
use contract.Lifetimes.{Lfts}
use denote.Triple.Clauses.{AtExit}
use borrow.Fn.Kinds.{Dens, ended_of}
use Rattle.convert_spec.specs.declared.ConvertFault.{ConvertFault}
use Rattle.convert_call.proofs.convert.Kinds as convert-kinds
use Rattle.convert_call.proofs.convert.Reads as convert-reads
use Rattle.convert_call.proofs.to_one.Kinds as one-kinds
use Rattle.convert_call.proofs.to_one.Reads as one-reads
use Rattle.convert_call.proofs.to_two.Kinds as two-kinds
use Rattle.convert_call.proofs.to_two.Reads as two-reads
use Rattle.convert_call.proofs.number.Kinds as number-kinds
use Rattle.convert_call.proofs.number.Reads as number-reads
use Rattle.convert_call.proofs.frame_length.Kinds as length-kinds
use Rattle.convert_call.proofs.frame_length.Reads as length-reads

pub convert-single : (κs : Lfts 6) (a : Dens κs convert-kinds.ps) (r r' : Result ℕ ConvertFault) (x x' : AtExit (ended_of 6 convert-kinds.ps convert-kinds.r) κs)
    → convert-reads.Post κs a r x → convert-reads.Post κs a r' x' → (r ≡ r') × (x.1.1.1.1.1.1.1.0.now ≡ x'.1.1.1.1.1.1.1.0.now)
convert-single κs a r r' x x' p q = (p.0 ∙ sym q.0, p.1 ∙ sym q.1)

pub to-one-single : (κs : Lfts 5) (a : Dens κs one-kinds.ps) (r r' : Result ℕ ConvertFault) (x x' : AtExit (ended_of 5 one-kinds.ps one-kinds.r) κs)
    → one-reads.Post κs a r x → one-reads.Post κs a r' x' → (r ≡ r') × (x.1.1.1.1.1.0.now ≡ x'.1.1.1.1.1.0.now)
to-one-single κs a r r' x x' p q = (p.0 ∙ sym q.0, p.1 ∙ sym q.1)

pub to-two-single : (κs : Lfts 6) (a : Dens κs two-kinds.ps) (r r' : Result ℕ ConvertFault) (x x' : AtExit (ended_of 6 two-kinds.ps two-kinds.r) κs)
    → two-reads.Post κs a r x → two-reads.Post κs a r' x' → (r ≡ r') × (x.1.1.1.1.1.1.0.now ≡ x'.1.1.1.1.1.1.0.now)
to-two-single κs a r r' x x' p q = (p.0 ∙ sym q.0, p.1 ∙ sym q.1)

pub number-single : (κs : Lfts 0) (a : Dens κs number-kinds.ps) (r r' : ℕ) (x x' : AtExit (ended_of 0 number-kinds.ps number-kinds.r) κs)
    → number-reads.Post κs a r x → number-reads.Post κs a r' x' → r ≡ r'
number-single κs a r r' x x' p q = p ∙ sym q

pub frame-length-single : (κs : Lfts 0) (a : Dens κs length-kinds.ps) (r r' : ℕ) (x x' : AtExit (ended_of 0 length-kinds.ps length-kinds.r) κs)
    → length-reads.Post κs a r x → length-reads.Post κs a r' x' → r ≡ r'
frame-length-single κs a r r' x x' p q = p ∙ sym q
