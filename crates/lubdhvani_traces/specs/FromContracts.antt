-- `Replays` and `Shows` are the contracts of `lubdhvani_replay` and `lubdhvani_stood`, as the check reads them (`Post`): whatever a proved call gives, what
-- this crate states holds of it. Assumes nothing.
use contract.Lifetimes.{Lfts}
use denote.Triple.Clauses.{AtExit}
use borrow.Fn.Kinds.{Dens, ended_of}
use Rattle.lubdhvani.specs.declared.replay.Replayed.{Replayed}
use Rattle.lubdhvani.specs.declared.replay.Stood.{Stood}
use Rattle.lubdhvani.proofs.replay.lubdhvani_replay.Kinds as replay-kinds
use Rattle.lubdhvani.proofs.replay.lubdhvani_replay.Reads as replay-reads
use Rattle.lubdhvani.proofs.replay.lubdhvani_stood.Kinds as stood-kinds
use Rattle.lubdhvani.proofs.replay.lubdhvani_stood.Reads as stood-reads
use Rattle.lubdhvani_traces.specs.Promises.{Replays, Shows}

-- the arguments are trace, key, font digest, editions, layout and buffer
pub c-replay-promises : (κs : Lfts 4) (a : Dens κs replay-kinds.ps) (r : Replayed) (x : AtExit (ended_of 4 replay-kinds.ps replay-kinds.r) κs)
    → replay-reads.Post κs a r x
    → Replays a.1.0.now a.1.1.0.now a.1.1.1.0 a.1.1.1.1.0 a.0.now a.1.1.1.1.1.0.now r x.1.1.1.1.1.0.now
c-replay-promises κs a r x p = p

-- the arguments are trace, event, key, font digest, editions, layout and buffer
pub c-stood-promises : (κs : Lfts 4) (a : Dens κs stood-kinds.ps) (q : Stood) (x : AtExit (ended_of 4 stood-kinds.ps stood-kinds.r) κs)
    → stood-reads.Post κs a q x
    → Shows a.1.1.0.now a.1.1.1.0.now a.1.1.1.1.0 a.1.1.1.1.1.0 a.0.now a.1.0 a.1.1.1.1.1.1.0.now q
    x.1.1.1.1.1.1.0.now
c-stood-promises κs a q x p = p
