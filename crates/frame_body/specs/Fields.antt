-- A frame's body (document 01, 'A frame and a stream'; its second edition is order W6's): its fields put together and taken apart.
-- What a field is stands in fields. Assumes nothing: these are definitions.
use Rattle.std.specs.Prelude.{Bool, false, cond, List, [], ◌∷◌, ◌++◌, ℕ, eqb, leb}
use Rattle.line_spec.specs.Lines.{longest}
use Rattle.base_fields.specs.Fields.{Front, value, no_field, front}
use Rattle.frame_body.specs.declared.Edition.{Edition}
use Rattle.frame_body.specs.declared.Edition.TheVariants.{One, Two}
-- what a field is, passed on
pub use Rattle.base_fields.specs.Fields.{head_length, high_byte}
unfoldable pub use Rattle.base_fields.specs.Fields.{field}

-- the fields' tags (document 01; tags are hexadecimal): the nonce
abbrev pub nonce_tag : ℕ
nonce_tag = 0x01

-- the font digest
abbrev pub digest_tag : ℕ
digest_tag = 0x02

-- the line ciphertext
abbrev pub cipher_tag : ℕ
cipher_tag = 0x03

-- the seal
abbrev pub seal_tag : ℕ
seal_tag = 0x04

-- the job (order W6)
abbrev pub job_tag : ℕ
job_tag = 0x05

-- the lengths of their values in bytes (document 01); a line ciphertext has `shortest` to `longest` bytes, as a line has
abbrev pub nonce_length : ℕ
nonce_length = 12

abbrev pub digest_length : ℕ
digest_length = 32

abbrev pub shortest : ℕ
shortest = 1

abbrev pub seal_length : ℕ
seal_length = 16

-- a job's bytes (order W6): edition one has none
abbrev pub job_length : ℕ
job_length = 4

abbrev pub job_size : Edition → ℕ
job_size One = 0
job_size Two = job_length

-- what is each frame's own: its edition, its nonce, and in edition two its job
pub record Own : Type 0 where
  pub edition : Edition
  pub nonce : List ℕ
  pub job : List ℕ

abbrev pub own_of : Edition → List ℕ → List ℕ → Own
own_of e nonce job = record { edition = e; nonce = nonce; job = job }

-- field 05 whole, which edition one has not
unfoldable pub job_field : Edition → List ℕ → List ℕ
job_field One job = []
job_field Two job = field job_tag job

-- the associated data: field 02 whole, and in edition two field 05 whole behind it
unfoldable pub associated : Edition → List ℕ → List ℕ → List ℕ
associated e digest job = field digest_tag digest ++ job_field e job

-- the fields in this order and once each: 01, 02, in edition two 05, 03, 04
unfoldable pub body : Own → List ℕ → List ℕ → List ℕ → List ℕ
body own digest cipher seal =
    field nonce_tag own.nonce ++ associated own.edition digest own.job ++ field cipher_tag cipher ++ field seal_tag seal

-- the decision over the tag byte, which picks the rule of the field: may its value have n bytes?
unfoldable pub takes : ℕ → ℕ → Bool
takes tag n =
    cond (eqb tag nonce_tag) (eqb n nonce_length)
    (cond (eqb tag digest_tag) (eqb n digest_length)
    (cond (eqb tag cipher_tag) (cond (leb shortest n) (leb n longest) false)
    (cond (eqb tag seal_tag) (eqb n seal_length)
    (cond (eqb tag job_tag) (eqb n job_length) false))))

-- what some bytes are as a body: the values of its fields, or no body
pub data Fields : Type 0 where
  fields : (own : Own) (digest cipher seal : List ℕ) → Fields
  no_body : Fields

-- on with a field's value and what is behind the field
abbrev pub next : Front → (List ℕ → List ℕ → Fields) → Fields
next (value v s) go = go v s
next no_field go = no_body

-- on with the edition, the job and what is behind it: a field 05 at the start of s makes edition two
abbrev pub by_job : Front → List ℕ → (Edition → List ℕ → List ℕ → Fields) → Fields
by_job (value job r) s go = go Two job r
by_job no_field s go = go One [] s

-- the fields in this order and once each, read from the last: behind the seal there is nothing
unfoldable pub after_seal : Own → List ℕ → List ℕ → List ℕ → List ℕ → Fields
after_seal own digest cipher seal [] = fields own digest cipher seal
after_seal own digest cipher seal (x ∷ s) = no_body

unfoldable pub after_cipher : Own → List ℕ → List ℕ → List ℕ → Fields
after_cipher own digest cipher s = next (front takes seal_tag s) (after_seal own digest cipher)

unfoldable pub after_job : Own → List ℕ → List ℕ → Fields
after_job own digest s = next (front takes cipher_tag s) (after_cipher own digest)

unfoldable pub after_digest : List ℕ → List ℕ → List ℕ → Fields
after_digest nonce digest s = by_job (front takes job_tag s) s (λ e job. after_job (own_of e nonce job) digest)

unfoldable pub after_nonce : List ℕ → List ℕ → Fields
after_nonce nonce s = next (front takes digest_tag s) (after_digest nonce)

unfoldable pub fields_of : List ℕ → Fields
fields_of b = next (front takes nonce_tag b) after_nonce
