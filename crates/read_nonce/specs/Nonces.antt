-- The nonce of a stretch: that of the fields which its bytes hold, of whatever edition; where they hold none, none is found and twelve zeros stand in its
-- place. Assumes nothing: these are definitions.
use Rattle.std.specs.Prelude.{List, ℕ, replicate}
use Rattle.frame_body.specs.Fields.{nonce_length, Fields, fields, no_body}
use Rattle.read_spec.specs.Judging.{held}
use Rattle.read_nonce.specs.declared.Nonce.{Nonce}

abbrev pub no_nonce : Nonce
no_nonce = record { found = 0; bytes = replicate nonce_length 0 }

abbrev pub of_fields : Fields → Nonce
of_fields no_body = no_nonce
of_fields (fields own digest cipher seal) = record { found = 1; bytes = own.nonce }

-- what the call answers for a stretch's bytes
unfoldable pub nonce_answer : List ℕ → Nonce
nonce_answer s = of_fields (held s)

-- the nonce itself
unfoldable pub nonce_of : List ℕ → List ℕ
nonce_of s = (nonce_answer s).bytes
