-- `mix_piece` meets its promise, way by way. Assumes nothing.
use Rattle.ingage_call.proofs.Passing.{absorb-goes, encrypt-goes, decrypt-goes}
use Rattle.ingage_call.proofs.texts.Cipher.mix_piece.Goals as goal

pub encrypt_piece-requires : goal.encrypt_piece-requires
encrypt_piece-requires c = (c.requires.0, rw c.in-Encrypt.is at c.requires.1)

pub decrypt_piece-requires : goal.decrypt_piece-requires
decrypt_piece-requires c = (c.requires.0, rw c.in-Decrypt.is at c.requires.1)

pub returns-in-Absorb : goal.returns-in-Absorb
returns-in-Absorb c = let met = absorb-goes c.args.way c.args.self.z.state
    c.args.self.z.rate c.args.p.now
    c.args.s c.absorb_piece.result c.args.out.now
    c.in-Absorb.is c.requires.1 c.absorb_piece.ensures in
    record { state = met.0; text = met.1 }

pub returns-in-Encrypt : goal.returns-in-Encrypt
returns-in-Encrypt c = let met = encrypt-goes c.args.way
    c.args.self.z.state
    c.args.self.z.rate
    c.args.p.now
    c.args.s c.encrypt_piece.result _
    c.in-Encrypt.is c.encrypt_piece.ensures.state c.encrypt_piece.ensures.text in
    record { state = met.0; text = met.1 }

pub returns-in-Decrypt : goal.returns-in-Decrypt
returns-in-Decrypt c = let met = decrypt-goes c.args.way
    c.args.self.z.state
    c.args.self.z.rate
    c.args.p.now
    c.args.s c.decrypt_piece.result _
    c.in-Decrypt.is c.decrypt_piece.ensures.state c.decrypt_piece.ensures.text in
    record { state = met.0; text = met.1 }
