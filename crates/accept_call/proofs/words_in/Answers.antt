-- `words_in` meets its promise: the numbers of the nonce that the stretch holds. Assumes nothing.
use mathlib.Core.Path.{ap, ◌∙◌}
use Rattle.read_nonce.specs.declared.Nonce.{Nonce}
use Rattle.read_nonce.specs.Nonces.{nonce_of}
use Rattle.accept_nonces.specs.Words.{words_of}
use Rattle.accept_call.proofs.words_in.Goals as goal

pub returns : goal.returns
unfolding nonce_of
returns c = c.words_of.ensures ∙ ap (λ (n : Nonce). words_of n.bytes) c.nonce_of-nonce.ensures
