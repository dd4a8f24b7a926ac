-- The known answer of the first instance: one byte of associated data and one of message, each a whole block that is followed by one more. The
-- value is the second program's, which is written from the papers alone (tests/second; the row `seal 1 1 1` of crates/rows_seal/stdout). Assumes
-- nothing.
use Rattle.std.specs.Prelude.{List, [], ◌∷◌, ℕ}
use Rattle.ingage_spec.specs.Instances.{first}
use Rattle.ingage_spec.specs.Cipher.{Work, encrypted}
use Rattle.ingage_spec.specs.Known.{key}

abbrev pub nonce : List ℕ
nonce = 0xA0 ∷ 0xA1 ∷ 0xA2 ∷ 0xA3 ∷ 0xA4 ∷ 0xA5 ∷ 0xA6 ∷ 0xA7 ∷ 0xA8 ∷ 0xA9 ∷ 0xAA ∷ 0xAB ∷ []

abbrev pub answer : Work
answer = encrypted first key nonce (0x01 ∷ []) (0x02 ∷ [])

abbrev pub known : List ℕ
known = 0xF3 ∷ 0x12 ∷ 0x44 ∷ 0x7D ∷ 0xDD ∷ 0xCF ∷ 0x17 ∷ 0x5A ∷ 0x29 ∷ 0xF1 ∷ 0x34 ∷ 0xF8 ∷ 0xDF ∷ 0xBB ∷ 0x92 ∷ 0xB2 ∷ 0x5E ∷ []
