-- `absorb_piece` meets its promise: the piece's block is mixed in. Assumes nothing.
use Prim.Native.Nat.{ℕ}
use mathlib.Core.List.{List}
use mathlib.Core.Path.{◌≡◌}
use native.Mathlib.Omega.{arith}
use lib.ListN.{take}
use Rattle.ingage_spec.specs.declared.Instance.{Instance}
use Rattle.ingage_spec.specs.Instances.{Fitting}
use Rattle.ingage_steps.specs.Arrays.{marked_block, marked_of}
use Rattle.ingage_steps.specs.First.{marked-first}
use Rattle.ingage_call.proofs.Passing.{piece-absorbed}
use Rattle.ingage_call.proofs.texts.Cipher.absorb_piece.Goals as goal

-- the block's first bytes
marked : (z : Instance) (p : List ℕ) {b : List ℕ} → Fitting z → b ≡ marked_of z.rate p → take z.rate b ≡ marked_block z.rate p
marked z p fits e = let s = fits.small in rw e (marked-first z.rate p fits.moves (omega arith))

pub returns : goal.returns
returns c =
    piece-absorbed c.args.self.z c.args.self.fits c.args.p.now c.associated_block.result c.args.s c.mix_block.result
    (marked c.args.self.z c.args.p.now c.args.self.fits c.associated_block.ensures) c.mix_block.ensures
