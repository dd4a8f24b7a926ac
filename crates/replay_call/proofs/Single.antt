-- The promises of `replay` and `stood`, as the check reads them (`Post`), admit a single answer and a single buffer, that of `replay_number` a single
-- number. Assumes nothing.
use mathlib.Core.Path.{◌≡◌, sym, ◌∙◌}
use Prim.Native.Nat.{ℕ}
use contract.Lifetimes.{Lfts}
use denote.Triple.Clauses.{AtExit}
use borrow.Fn.Kinds.{Dens, ended_of}
use Rattle.replay_spec.specs.declared.Replayed.{Replayed}
use Rattle.replay_spec.specs.declared.Stood.{Stood}
use Rattle.replay_call.proofs.replay.Kinds as kinds
use Rattle.replay_call.proofs.replay.Reads.{Post}
use Rattle.replay_call.proofs.stood.Kinds as stood-kinds
use Rattle.replay_call.proofs.stood.Reads as stood-reads
use Rattle.replay_call.proofs.replay_number.Kinds as number-kinds
use Rattle.replay_call.proofs.replay_number.Reads as number-reads

pub replay-single : (κs : Lfts 4) (a : Dens κs kinds.ps) (r r' : Replayed) (x x' : AtExit (ended_of 4 kinds.ps kinds.r) κs)
    → Post κs a r x → Post κs a r' x' → (r ≡ r') × (x.1.1.1.1.1.0.now ≡ x'.1.1.1.1.1.0.now)
replay-single κs a r r' x x' p q = (p.0 ∙ sym q.0, p.1 ∙ sym q.1)

pub stood-single : (κs : Lfts 4) (a : Dens κs stood-kinds.ps) (r r' : Stood) (x x' : AtExit (ended_of 4 stood-kinds.ps stood-kinds.r) κs)
    → stood-reads.Post κs a r x → stood-reads.Post κs a r' x' → (r ≡ r') × (x.1.1.1.1.1.1.0.now ≡ x'.1.1.1.1.1.1.0.now)
stood-single κs a r r' x x' p q = (p.0 ∙ sym q.0, p.1 ∙ sym q.1)

pub replay-number-single : (κs : Lfts 0) (a : Dens κs number-kinds.ps) (r r' : ℕ) (x x' : AtExit (ended_of 0 number-kinds.ps number-kinds.r) κs)
    → number-reads.Post κs a r x → number-reads.Post κs a r' x' → r ≡ r'
replay-number-single κs a r r' x x' p q = p ∙ sym q
