-- `mix_block` meets its promise: the part handed on is the block's first bytes. Assumes nothing.
use mathlib.Core.Path.{◌≡◌}
use Prim.Native.Nat.{◌-◌}
use native.Mathlib.Omega.{arith}
use Rattle.ingage_call.proofs.texts.Cipher.mix_block.Goals as goal

pub slice_bounds-mix-end : goal.slice_bounds-mix-end
slice_bounds-mix-end c =
    let m = c.args.self.fits.small in omega arith

pub returns : goal.returns
returns c =
    let e : c.args.self.z.rate - 0 ≡ c.args.self.z.rate = omega arith in
    rw e at c.mix.ensures.bytes
