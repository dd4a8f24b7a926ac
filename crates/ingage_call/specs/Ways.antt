-- What the one loop over the blocks of a text (src/texts.rt) works out, by what the text is passed for: the steps of the crate cipher's
-- definitions, each block as its piece of the text. Assumes nothing: these are definitions.
use Rattle.std.specs.Prelude.{ℕ, List, [], length, take}
use Rattle.gage_sponge.specs.Padding.{last_block}
use Rattle.gage_sponge.specs.Absorbing.{Run}
use Rattle.ingage_spec.specs.declared.Instance.{Instance}
use Rattle.ingage_spec.specs.Cipher.{absorbing, Flow, encrypting, masked, decrypting}
use Rattle.ingage_steps.specs.Arrays.{marked_block}
use Rattle.ingage_call.specs.declared.texts.Way.{Way}
use Rattle.ingage_call.specs.declared.texts.Way.TheVariants.{Absorb, Encrypt, Decrypt}

-- the block XORed into a state s for a piece p of a text: of a ciphertext, that of the piece of the message it is found to be
abbrev pub piece_block : Way → ℕ → List ℕ → List ℕ → List ℕ
piece_block Absorb R p s = marked_block R p
piece_block Encrypt R p s = take R (last_block p)
piece_block Decrypt R p s = take R (last_block (masked p s))

-- what is given out for it
abbrev pub piece_text : Way → List ℕ → List ℕ → List ℕ
piece_text Absorb p s = []
piece_text Encrypt p s = masked p s
piece_text Decrypt p s = masked p s

-- how much is given out of so many bytes
abbrev pub given : Way → ℕ → ℕ
given Absorb n = 0
given Encrypt n = n
given Decrypt n = n

-- after i blocks of a text, from a run r
abbrev pub flow : Way → Instance → Run → List ℕ → ℕ → Flow
flow Absorb z r A i = record { run = absorbing z r A i; text = [] }
flow Encrypt z r P i = record { run = (encrypting z.rate r P i).run; text = take (length P) (encrypting z.rate r P i).text }
flow Decrypt z r C i = decrypting z.rate r C i
