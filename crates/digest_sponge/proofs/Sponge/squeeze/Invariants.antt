-- `squeeze` meets its promise. The invariant: state and digest are the sponge's after k outputs (`Given`). Assumes nothing.
use Rattle.digest_sponge.proofs.Giving.{Given}
use Rattle.digest_sponge.proofs.Sponge.squeeze.Given as goal

abbrev pub invariant-loop-k : goal.invariant-loop-k
invariant-loop-k l = Given l.self.size l.self.rate l.self.outputs l.initial.t l.hash l.t l.k
