-- The promises of `mix` and `last_block`, as the check reads them (`Post`), admit a single answer.
-- Assumes nothing.
use mathlib.Core.Path.{◌≡◌, sym, ◌∙◌}
use mathlib.Core.List.{List}
use Prim.Native.Nat.{ℕ}
use contract.Lifetimes.{Lfts}
use denote.Triple.Clauses.{AtExit}
use borrow.Fn.Kinds.{Dens, ended_of}
use Rattle.gage_sponge.proofs.mix.Kinds as mix-kinds
use Rattle.gage_sponge.proofs.mix.Reads as mix-reads
use Rattle.gage_sponge.proofs.last_block.Kinds as last-block-kinds
use Rattle.gage_sponge.proofs.last_block.Reads as last-block-reads

pub mix-single : (κs : Lfts 1) (a : Dens κs mix-kinds.ps) (r r' : List ℕ) (x x' : AtExit (ended_of 1 mix-kinds.ps mix-kinds.r) κs)
    → mix-reads.Post κs a r x → mix-reads.Post κs a r' x' → r ≡ r'
mix-single κs a r r' x x' p q = p ∙ sym q

pub last-block-single : (κs : Lfts 1) (a : Dens κs last-block-kinds.ps) (r r' : List ℕ) (x x' : AtExit (ended_of 1 last-block-kinds.ps last-block-kinds.r) κs)
    → last-block-reads.Post κs a r x → last-block-reads.Post κs a r' x' → r ≡ r'
last-block-single κs a r r' x x' p q = p ∙ sym q
