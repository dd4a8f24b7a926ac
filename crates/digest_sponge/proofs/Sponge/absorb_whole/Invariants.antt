-- `absorb_whole` meets its promise. The invariant: the state's first bytes are those of the sponge after the blocks so far (`Taken`). Assumes nothing.
use Rattle.std.proofs.Common.{◌≡◌, length}
use Rattle.digest_sponge.proofs.Taking.{Taken}
use Rattle.digest_sponge.proofs.Sponge.absorb_whole.Given as goal

abbrev pub invariant-loop-block : goal.invariant-loop-block
invariant-loop-block l =
    record {
      cut : l.block-iterator.size ≡ l.self.rate;
      taken : Taken l.self.size l.self.rate l.message l.initial.state l.state l.block-iterator.rest.now (length l.yielded);
    }
