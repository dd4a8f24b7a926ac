-- The promises of the public steps, as the check reads them (`Post`), admit a single answer. Assumes nothing.
use mathlib.Core.Path.{◌≡◌, sym, ◌∙◌}
use mathlib.Core.List.{List}
use mathlib.Core.Bool.{Bool}
use Prim.Native.Nat.{ℕ}
use contract.Lifetimes.{Lfts}
use denote.Triple.Clauses.{AtExit}
use borrow.Fn.Kinds.{Dens, ended_of}
use Rattle.digest_sponge.specs.declared.Shape.{Shape}
use Rattle.digest_sponge.proofs.is_unknown.Kinds as is-unknown-kinds
use Rattle.digest_sponge.proofs.is_unknown.Reads as is-unknown-reads
use Rattle.digest_sponge.proofs.sponge_of.Kinds as sponge-of-kinds
use Rattle.digest_sponge.proofs.sponge_of.Reads as sponge-of-reads
use Rattle.digest_sponge.proofs.take_in.Kinds as take-in-kinds
use Rattle.digest_sponge.proofs.take_in.Reads as take-in-reads
use Rattle.digest_sponge.proofs.close.Kinds as close-kinds
use Rattle.digest_sponge.proofs.close.Reads as close-reads
use Rattle.digest_sponge.proofs.hash.Kinds as hash-kinds
use Rattle.digest_sponge.proofs.hash.Reads as hash-reads

pub is-unknown-single : (κs : Lfts 0) (a : Dens κs is-unknown-kinds.ps) (r r' : Bool) (x x' : AtExit (ended_of 0 is-unknown-kinds.ps is-unknown-kinds.r) κs)
    → is-unknown-reads.Post κs a r x → is-unknown-reads.Post κs a r' x' → r ≡ r'
is-unknown-single κs a r r' x x' p q = p ∙ sym q

pub sponge-of-single : (κs : Lfts 0) (a : Dens κs sponge-of-kinds.ps) (r r' : Shape) (x x' : AtExit (ended_of 0 sponge-of-kinds.ps sponge-of-kinds.r) κs)
    → sponge-of-reads.Post κs a r x → sponge-of-reads.Post κs a r' x' → r ≡ r'
sponge-of-single κs a r r' x x' p q = p ∙ sym q

pub take-in-single : (κs : Lfts 1) (a : Dens κs take-in-kinds.ps) (r r' : List ℕ) (x x' : AtExit (ended_of 1 take-in-kinds.ps take-in-kinds.r) κs)
    → take-in-reads.Post κs a r x → take-in-reads.Post κs a r' x' → r ≡ r'
take-in-single κs a r r' x x' p q = p ∙ sym q

pub close-single : (κs : Lfts 1) (a : Dens κs close-kinds.ps) (r r' : List ℕ) (x x' : AtExit (ended_of 1 close-kinds.ps close-kinds.r) κs)
    → close-reads.Post κs a r x → close-reads.Post κs a r' x' → r ≡ r'
close-single κs a r r' x x' p q = p ∙ sym q

pub hash-single : (κs : Lfts 1) (a : Dens κs hash-kinds.ps) (r r' : List ℕ) (x x' : AtExit (ended_of 1 hash-kinds.ps hash-kinds.r) κs)
    → hash-reads.Post κs a r x → hash-reads.Post κs a r' x' → r ≡ r'
hash-single κs a r r' x x' p q = p ∙ sym q
