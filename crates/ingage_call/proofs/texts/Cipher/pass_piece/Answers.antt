-- `pass_piece` meets its promise: the piece is mixed in, and half the rounds run on what that gives. Assumes nothing.
use mathlib.Core.Path.{ap, ◌∙◌}
use Rattle.ingage_spec.specs.Cipher.{half}
use Rattle.ingage_call.proofs.texts.Cipher.pass_piece.Goals as goal

pub returns : goal.returns
returns c = let mixed = c.mix_piece.ensures in record { state = c.half.ensures ∙ ap half mixed.state; text = mixed.text }
