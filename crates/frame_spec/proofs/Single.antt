-- The promises of `frame_room` and `beside_line`, as the check reads them (`Post`), admit a single answer. Assumes nothing.
use mathlib.Core.Path.{◌≡◌, sym, ◌∙◌}
use Prim.Native.Nat.{ℕ}
use contract.Lifetimes.{Lfts}
use denote.Triple.Clauses.{AtExit}
use borrow.Fn.Kinds.{Dens, ended_of}
use Rattle.frame_spec.proofs.frame_room.Kinds as room-kinds
use Rattle.frame_spec.proofs.frame_room.Reads as room-reads
use Rattle.frame_spec.proofs.beside_line.Kinds as beside-kinds
use Rattle.frame_spec.proofs.beside_line.Reads as beside-reads

pub frame-room-single : (κs : Lfts 0) (a : Dens κs room-kinds.ps) (r r' : ℕ) (x x' : AtExit (ended_of 0 room-kinds.ps room-kinds.r) κs)
    → room-reads.Post κs a r x → room-reads.Post κs a r' x' → r ≡ r'
frame-room-single κs a r r' x x' p q = p ∙ sym q

pub beside-line-single : (κs : Lfts 0) (a : Dens κs beside-kinds.ps) (r r' : ℕ) (x x' : AtExit (ended_of 0 beside-kinds.ps beside-kinds.r) κs)
    → beside-reads.Post κs a r x → beside-reads.Post κs a r' x' → r ≡ r'
beside-line-single κs a r r' x x' p q = p ∙ sym q
