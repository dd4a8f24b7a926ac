-- `absorb` meets its promise: whole blocks and the last one are all blocks. Assumes nothing.
use native.Mathlib.Nat.{div-mul-le_self}
use lib.ListN.{length}
use mathlib.Core.Path.{refl}
use Rattle.digest_sponge.proofs.Taking.{all-taken}
use native.Mathlib.Omega.{arith}
use Rattle.digest_sponge.proofs.Sponge.absorb.Goals as goal

-- src/lib.rt:125:14
pub overflow_mul-at : goal.overflow_mul-at
overflow_mul-at c =
    omega (arith, div-mul-le_self (length c.args.message.now) c.args.self.rate)

-- src/lib.rt:126:20
pub slice_bounds-absorb_last-count : goal.slice_bounds-absorb_last-count
slice_bounds-absorb_last-count c =
    div-mul-le_self (length c.args.message.now) c.args.self.rate

-- src/lib.rt:126:20
pub slice_bounds-absorb_last-start : goal.slice_bounds-absorb_last-start
slice_bounds-absorb_last-start c =
    div-mul-le_self (length c.args.message.now) c.args.self.rate

-- src/lib.rt:120:1
pub returns : goal.returns
returns c =
    let start = c in
    all-taken start.args.message.now c.woven.result c.absorb_whole-s.result _ c.args.self.fits
    c.woven.ensures c.absorb_whole-s.ensures refl c.absorb_last.ensures
