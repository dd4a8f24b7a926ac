-- `last_block` meets its promise: the rest copied over zeros, with the stop byte behind what was kept, is the last block. Assumes nothing.
use Rattle.std.proofs.Common.{◌≡◌, ◌-◌, length, arith}
use Rattle.std.proofs.Math.Decide.{dec_lt}
use Rattle.gage_sponge.specs.Padding.{LARGEST-RATE}
use Rattle.gage_sponge.proofs.Stopping.{stop-behind, stop-last}
use Rattle.gage_sponge.proofs.last_block.Goals as goal

pub returns : goal.returns
returns c =
    let kept = c.min.ensures in
    elim (dec_lt (length c.args.rest.now) LARGEST-RATE) [
      | yes p ↦ let e : c.min.result ≡ length c.args.rest.now = omega arith in rw (c.copy.ensures, e) (stop-behind c.args.rest.now p)
      | no p ↦ let e : c.min.result ≡ LARGEST-RATE - 1 = omega arith in rw (c.copy.ensures, e) (stop-last c.args.rest.now (omega arith))
    ]
