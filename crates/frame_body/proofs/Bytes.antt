-- A body of bytes: where its values are bytes, so is every byte of it. Assumes nothing.
use Rattle.std.specs.Prelude.{List, ◌++◌, ◌≡◌, ℕ, length}
use Rattle.std.proofs.Common.{arith}
use Rattle.base_lists.specs.Below.{Below, below-append}
use Rattle.base_fields.specs.Fields.{field}
use Rattle.base_fields.specs.Laws.{field_below}
use Rattle.frame_body.specs.declared.Edition.{Edition}
use Rattle.frame_body.specs.declared.Edition.TheVariants.{One, Two}
use Rattle.frame_body.specs.Fields.{nonce_tag, digest_tag, cipher_tag, seal_tag, job_tag, digest_length, job_size, Own, job_field, body, associated}
use Rattle.frame_body.specs.Lengths.{Sized}

pub job-field-below : (e : Edition) (job : List ℕ) → length job ≡ job_size e → Below 256 job → Below 256 (job_field e job)
unfolding job_field
job-field-below One job l b = tt
job-field-below Two job l b = field_below job_tag job (omega arith) (omega arith) b

pub associated-below : (e : Edition) (digest job : List ℕ) → length digest ≡ digest_length → length job ≡ job_size e
    → Below 256 digest → Below 256 job → Below 256 (associated e digest job)
unfolding associated
associated-below e digest job l j b c =
    below-append 256 (field digest_tag digest) (job_field e job) (field_below digest_tag digest (omega arith) (omega arith) b) (job-field-below e job j c)

pub body_below : {own : Own} {digest cipher seal : List ℕ} → Sized own digest cipher seal → Below 256 own.nonce → Below 256 own.job
    → Below 256 digest → Below 256 cipher → Below 256 seal → Below 256 (body own digest cipher seal)
unfolding body
body_below {own} {digest} {cipher} {seal} z n j d c s =
    below-append 256 (field nonce_tag own.nonce ++ associated own.edition digest own.job ++ field cipher_tag cipher) (field seal_tag seal)
    (below-append 256 (field nonce_tag own.nonce ++ associated own.edition digest own.job) (field cipher_tag cipher)
    (below-append 256 (field nonce_tag own.nonce) (associated own.edition digest own.job)
    (field_below nonce_tag own.nonce (omega arith) (omega (arith, z.nonce-is)) n)
    (associated-below own.edition digest own.job z.digest-is z.job_is d j))
    (field_below cipher_tag cipher (omega arith) (omega (arith, z.cipher-to)) c))
    (field_below seal_tag seal (omega arith) (omega (arith, z.seal-is)) s)
