-- The promises of the C calls of a replay, as the check reads them (`Post`), admit a single answer and a single buffer. Assumes nothing.
use mathlib.Core.Path.{◌≡◌, sym, ◌∙◌}
use contract.Lifetimes.{Lfts}
use denote.Triple.Clauses.{AtExit}
use borrow.Fn.Kinds.{Dens, ended_of}
use Rattle.lubdhvani.specs.declared.replay.Replayed.{Replayed}
use Rattle.lubdhvani.specs.declared.replay.Stood.{Stood}
use Rattle.lubdhvani.proofs.replay.lubdhvani_replay.Kinds as replay-kinds
use Rattle.lubdhvani.proofs.replay.lubdhvani_replay.Reads as replay-reads
use Rattle.lubdhvani.proofs.replay.lubdhvani_stood.Kinds as stood-kinds
use Rattle.lubdhvani.proofs.replay.lubdhvani_stood.Reads as stood-reads

pub lubdhvani-replay-single : (κs : Lfts 4) (a : Dens κs replay-kinds.ps) (r r' : Replayed)
    (x x' : AtExit (ended_of 4 replay-kinds.ps replay-kinds.r) κs)
    → replay-reads.Post κs a r x → replay-reads.Post κs a r' x' → (r ≡ r') × (x.1.1.1.1.1.0.now ≡ x'.1.1.1.1.1.0.now)
lubdhvani-replay-single κs a r r' x x' p q = (p.0 ∙ sym q.0, p.1 ∙ sym q.1)

pub lubdhvani-stood-single : (κs : Lfts 4) (a : Dens κs stood-kinds.ps) (r r' : Stood)
    (x x' : AtExit (ended_of 4 stood-kinds.ps stood-kinds.r) κs)
    → stood-reads.Post κs a r x → stood-reads.Post κs a r' x' → (r ≡ r') × (x.1.1.1.1.1.1.0.now ≡ x'.1.1.1.1.1.1.0.now)
lubdhvani-stood-single κs a r r' x x' p q = (p.0 ∙ sym q.0, p.1 ∙ sym q.1)
