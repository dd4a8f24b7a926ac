-- `given` meets its promise, way by way. Assumes nothing.
use mathlib.Core.Path.{refl}
use Rattle.ingage_call.proofs.texts.given.Goals as goal

pub returns-in-Absorb : goal.returns-in-Absorb
returns-in-Absorb c = rw c.in-Absorb.is refl

pub returns-in-Encrypt : goal.returns-in-Encrypt
returns-in-Encrypt c = rw c.in-Encrypt.is refl

pub returns-in-Decrypt : goal.returns-in-Decrypt
returns-in-Decrypt c = rw c.in-Decrypt.is refl
