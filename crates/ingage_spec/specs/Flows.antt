-- What sealing gives out and opening finds, piece by piece, at a rate of R bytes and from any state at least as long: a text
-- and its ciphertext have the same length, and piece by piece each is the other masked with the state of sealing.
-- Assumes nothing.
use Rattle.std.specs.Prelude.{◌≡◌}
use Rattle.std.proofs.Math.Path.{refl, sym, ap, ap₂}
use Rattle.std.proofs.Common.{◌∙◌, add-one, take_all, length-take-le}
use mathlib.Core.List.{List, ◌++◌}
use Prim.Native.Nat.{ℕ, zero, suc, ◌+◌, ◌-◌, ◌*◌, ◌≤◌, ◌<◌, min}
use Rattle.std.proofs.Math.Nat.{zero-mul, suc-mul}
use native.Mathlib.Omega.{arith}
use Rattle.std.proofs.Math.ListN.{length, take, length-append, length-take}
use Rattle.std.proofs.Math.Seq.{take-append-add}
use Rattle.gage_sponge.specs.Padding.{block, block_count}
use Rattle.gage_sponge.proofs.Blocks.{block-take, length-block}
use Rattle.gage_sponge.specs.Absorbing.{xored, Run}
use Rattle.gage_sponge.specs.Xor.{length-xored}
use Rattle.ingage_spec.specs.Cipher.{passed, encrypting, piece, masked, decrypting}
use Rattle.ingage_spec.specs.Masking.{masked-take, length-masked, masked-back}
use Rattle.ingage_spec.specs.Pieces.{piece-starts, pieces-reach, take-piece, length-piece, take-both}
use Rattle.ingage_spec.specs.Pieces.{block-piece, same-pieces, Growing, grown, grown-piece}
use Rattle.ingage_spec.specs.Runs.{length-encrypting, length-decrypting}

-- C follows from P by the states of sealing
pub record Follows (R : ℕ) (r : Run) (P C : List ℕ) : Type 0 where
  pub long : length P ≡ length C
  pub pieces : (i : ℕ) → i < block_count R P → piece R C i ≡ masked (piece R P i) (encrypting R r P i).run.state
