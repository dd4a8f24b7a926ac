-- The promise of `unstuffed_length`, as the check reads it (`Post`), admits a single answer. Assumes nothing.
use Rattle.std.specs.Prelude.{Result, ℕ}
use mathlib.Core.Path.{◌≡◌, sym, ◌∙◌}
use contract.Lifetimes.{Lfts}
use denote.Triple.Clauses.{AtExit}
use borrow.Fn.Kinds.{Dens, ended_of}
use Rattle.frame_stuff_spec.specs.declared.UnstuffFault.{UnstuffFault}
use Rattle.frame_stuff_spec.proofs.unstuffed_length.Kinds as length-kinds
use Rattle.frame_stuff_spec.proofs.unstuffed_length.Reads as length-reads

pub unstuffed-length-single : (κs : Lfts 1) (a : Dens κs length-kinds.ps) (r r' : Result ℕ UnstuffFault) (x x' : AtExit (ended_of 1 length-kinds.ps length-kinds.r) κs)
    → length-reads.Post κs a r x → length-reads.Post κs a r' x' → r ≡ r'
unstuffed-length-single κs a r r' x x' p q = p ∙ sym q
