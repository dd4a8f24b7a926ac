-- How long bodies are (document 01, 'A frame and a stream', and order W6), and what the tags' rules take. Assumes nothing.
use Rattle.std.specs.Prelude.{◌≡◌, List, ℕ, ◌+◌, ◌≤◌, length}
use Rattle.line_spec.specs.Lines.{longest}
use Rattle.frame_body.specs.declared.Edition.{Edition}
use Rattle.frame_body.specs.declared.Edition.TheVariants.{One, Two}
use Rattle.frame_body.specs.Fields.{nonce_length, digest_length, shortest, seal_length}
use Rattle.frame_body.specs.Fields.{job_size, Own}

-- how long field 05 is (order W6), which edition one has not: what is longer in edition two is longer by so much
abbrev pub job_field_length : Edition → ℕ
job_field_length One = 0
job_field_length Two = 7

-- the associated data has 35 bytes (document 01), in edition two 42
abbrev pub associated_length : Edition → ℕ
associated_length e = 35 + job_field_length e

-- a body is 72 + line length bytes, 73 to 137 (document 01), in edition two 79 + line length bytes
abbrev pub beside_cipher : Edition → ℕ
beside_cipher e = 72 + job_field_length e

abbrev pub shortest_body : Edition → ℕ
shortest_body e = 73 + job_field_length e

abbrev pub longest_body : Edition → ℕ
longest_body e = 137 + job_field_length e

-- values with the lengths that the document gives
pub record Sized (own : Own) (digest cipher seal : List ℕ) : Type 0 where
  pub nonce-is : length own.nonce ≡ nonce_length
  pub job_is : length own.job ≡ job_size own.edition
  pub digest-is : length digest ≡ digest_length
  pub cipher-from : shortest ≤ length cipher
  pub cipher-to : length cipher ≤ longest
  pub seal-is : length seal ≡ seal_length
