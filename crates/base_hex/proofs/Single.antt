-- The promises of `put_hex`, `last_digit`, `value`, `all_digits` and `digit_at`, as the check reads them (`Post`), admit a single answer. Assumes nothing.
use Rattle.std.specs.Prelude.{Option}
use mathlib.Core.Path.{◌≡◌, sym, ◌∙◌}
use mathlib.Core.Bool.{Bool}
use Prim.Native.Nat.{ℕ}
use contract.Lifetimes.{Lfts}
use denote.Triple.Clauses.{AtExit}
use borrow.Fn.Kinds.{Dens, ended_of}
use Rattle.base_hex.proofs.put_hex.Kinds as put-kinds
use Rattle.base_hex.proofs.put_hex.Reads as put_reads
use Rattle.base_hex.proofs.last_digit.Kinds as last-kinds
use Rattle.base_hex.proofs.last_digit.Reads as last-reads
use Rattle.base_hex.proofs.value.Kinds as value-kinds
use Rattle.base_hex.proofs.value.Reads as value-reads
use Rattle.base_hex.proofs.all_digits.Kinds as all_kinds
use Rattle.base_hex.proofs.all_digits.Reads as all-reads
use Rattle.base_hex.proofs.digit_at.Kinds as at-kinds
use Rattle.base_hex.proofs.digit_at.Reads as at_reads

pub put-hex-single : (κs : Lfts 2) (a : Dens κs put-kinds.ps) (r r' : ℕ) (x x' : AtExit (ended_of 2 put-kinds.ps put-kinds.r) κs)
    → put_reads.Post κs a r x → put_reads.Post κs a r' x' → (r ≡ r') × (x.1.0.now ≡ x'.1.0.now)
put-hex-single κs a r r' x x' p q = (p.0 ∙ sym q.0, p.1 ∙ sym q.1)

pub last-digit-single : (κs : Lfts 0) (a : Dens κs last-kinds.ps) (r r' : ℕ) (x x' : AtExit (ended_of 0 last-kinds.ps last-kinds.r) κs)
    → last-reads.Post κs a r x → last-reads.Post κs a r' x' → r ≡ r'
last-digit-single κs a r r' x x' p q = p ∙ sym q

pub value-single : (κs : Lfts 0) (a : Dens κs value-kinds.ps) (r r' : Option ℕ) (x x' : AtExit (ended_of 0 value-kinds.ps value-kinds.r) κs)
    → value-reads.Post κs a r x → value-reads.Post κs a r' x' → r ≡ r'
value-single κs a r r' x x' p q = p ∙ sym q

pub all-digits-single : (κs : Lfts 1) (a : Dens κs all_kinds.ps) (r r' : Bool) (x x' : AtExit (ended_of 1 all_kinds.ps all_kinds.r) κs)
    → all-reads.Post κs a r x → all-reads.Post κs a r' x' → r ≡ r'
all-digits-single κs a r r' x x' p q = p ∙ sym q

pub digit-at-single : (κs : Lfts 1) (a : Dens κs at-kinds.ps) (r r' : ℕ) (x x' : AtExit (ended_of 1 at-kinds.ps at-kinds.r) κs)
    → at_reads.Post κs a r x → at_reads.Post κs a r' x' → r ≡ r'
digit-at-single κs a r r' x x' p q = p.0 ∙ sym q.0
