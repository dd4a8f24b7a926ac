-- `absorb` meets its promise: the blocks are passed, nothing is given out, and the constant is XORed in. Assumes nothing.
use Rattle.ingage_call.proofs.Passing.{absorbed-all}
use Rattle.ingage_call.proofs.texts.Cipher.absorb.Goals as goal

pub returns : goal.returns
returns c = absorbed-all c.args.self.z c.args.assoc.now
    c.args.s c.pass-r.result c.after_associated.result
    c.args.self.fits c.pass-r.ensures.state c.after_associated.ensures
