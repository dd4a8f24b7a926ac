-- `nonce_part` meets its promise: as many bytes as the buffer has are copied. Assumes nothing.
use Prim.Native.Nat.{ℕ}
use lib.ListN.{replicate, length-replicate}
use Rattle.frame_body.specs.Fields.{nonce_length}
use Rattle.read_nonce.proofs.Handed.{part-copied}
use Rattle.read_nonce.proofs.nonce_part.Goals as goal

pub returns : goal.returns
returns c =
    part-copied c.args.body.now (replicate nonce_length 0) c.requires (length-replicate {A = ℕ} nonce_length 0) _ c.copy.ensures
