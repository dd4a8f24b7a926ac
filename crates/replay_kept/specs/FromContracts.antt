-- `Requests`, `Replays` and `Shows` are the contracts of `request`, `replay` and `stood`, as the check reads them (`Post`): whatever a proved call gives, what
-- this crate states holds of it. Assumes nothing.
use contract.Lifetimes.{Lfts}
use denote.Triple.Clauses.{AtExit}
use borrow.Fn.Kinds.{Dens, ended_of}
use Rattle.replay_spec.specs.declared.Replayed.{Replayed}
use Rattle.replay_spec.specs.declared.Stood.{Stood}
use Rattle.replay_request.specs.declared.Reached.{Reached}
use Rattle.replay_request.proofs.request.Kinds as request-kinds
use Rattle.replay_request.proofs.request.Reads as request-reads
use Rattle.replay_call.proofs.replay.Kinds as replay-kinds
use Rattle.replay_call.proofs.replay.Reads as replay-reads
use Rattle.replay_call.proofs.stood.Kinds as stood-kinds
use Rattle.replay_call.proofs.stood.Reads as stood-reads
use Rattle.replay_kept.specs.Promises.{Requests, Replays, Shows}

-- the arguments are stream, place, key, font digest, editions and layout
pub request-promises : (κs : Lfts 3) (a : Dens κs request-kinds.ps) (r : Reached) (x : AtExit (ended_of 3 request-kinds.ps request-kinds.r) κs)
    → request-reads.Post κs a r x
    → Requests a.1.1.0.now a.1.1.1.0.now a.1.1.1.1.0 a.1.1.1.1.1.0 a.0.now a.1.0 r
request-promises κs a r x p = p

-- the arguments are trace, key, font digest, editions, layout and buffer
pub replay-promises : (κs : Lfts 4) (a : Dens κs replay-kinds.ps) (r : Replayed) (x : AtExit (ended_of 4 replay-kinds.ps replay-kinds.r) κs)
    → replay-reads.Post κs a r x
    → Replays a.1.0.now a.1.1.0.now a.1.1.1.0 a.1.1.1.1.0 a.0.now a.1.1.1.1.1.0.now r x.1.1.1.1.1.0.now
replay-promises κs a r x p = p

-- the arguments are trace, event, key, font digest, editions, layout and buffer
pub stood-promises : (κs : Lfts 4) (a : Dens κs stood-kinds.ps) (q : Stood) (x : AtExit (ended_of 4 stood-kinds.ps stood-kinds.r) κs)
    → stood-reads.Post κs a q x
    → Shows a.1.1.0.now a.1.1.1.0.now a.1.1.1.1.0 a.1.1.1.1.1.0 a.0.now a.1.0 a.1.1.1.1.1.1.0.now q
    x.1.1.1.1.1.1.0.now
stood-promises κs a q x p = p
