-- Where the values stand in a body: all places are fixed by the edition and the length of the line ciphertext. Assumes nothing.
use Rattle.std.specs.Prelude.{ℕ, ◌+◌}
use Rattle.frame_body.specs.declared.Edition.{Edition}
use Rattle.frame_body.specs.Fields.{nonce_length, digest_length}
use Rattle.frame_body.specs.Fields.{head_length}
use Rattle.frame_body.specs.Lengths.{job_field_length}

-- the nonce
abbrev pub nonce_at : ℕ
nonce_at = head_length

-- the associated data
abbrev pub associated_at : ℕ
associated_at = nonce_at + nonce_length

-- the font digest
abbrev pub digest_at : ℕ
digest_at = associated_at + head_length

-- in edition two the job
abbrev pub job_at : ℕ
job_at = digest_at + digest_length + head_length

-- the line ciphertext
abbrev pub cipher_at : Edition → ℕ
cipher_at e = digest_at + digest_length + head_length + job_field_length e

-- the seal, behind a line ciphertext of n bytes
abbrev pub seal_at : Edition → ℕ → ℕ
seal_at e n = cipher_at e + n + head_length
