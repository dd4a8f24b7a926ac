-- `decrypt_piece` meets its promise: the message's piece is found first, then padded and mixed in. Assumes nothing.
use Rattle.ingage_call.proofs.Passing.{piece-opened}
use Rattle.ingage_call.proofs.texts.Cipher.decrypt_piece.Goals as goal

pub returns : goal.returns
returns c =
    let met = piece-opened c.args.self.z c.args.self.fits c.args.c.now c.args.s c.requires.0 c.args.out.now _ c.requires.1
    c.last_block.result c.mix-m.result c.mix_block.result c.mix-m.ensures.bytes
    c.tell.ensures
    c.last_block.ensures c.mix_block.ensures in
    record { state = met.0; text = met.1 }
