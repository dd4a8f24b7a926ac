-- `encrypt_piece` meets its promise: the piece, padded, is mixed in, and its first bytes are the ciphertext. Assumes nothing.
use Rattle.ingage_call.proofs.Passing.{piece-sealed}
use Rattle.ingage_call.proofs.texts.Cipher.encrypt_piece.Goals as goal

pub returns : goal.returns
returns c =
    let met = piece-sealed c.args.self.z c.args.self.fits c.args.p.now c.args.s c.requires.0 c.args.out.now _ c.requires.1
    c.last_block.result c.mix_block-x.result c.last_block.ensures c.mix_block-x.ensures
    c.tell.ensures in
    record { state = met.0; text = met.1 }
