-- The job as a number, high byte first as lengths are (order W6): one to one with field 05's four bytes. And a job that is found has its
-- edition's length, whatever the bytes. Assumes nothing.
use Rattle.std.specs.Prelude.{◌≡◌, refl, ℕ, ◌<◌, length}
use mathlib.Core.List.{List, [], ◌∷◌}
use Rattle.std.proofs.Common.{arith}
use Rattle.base_lists.specs.Below.{Below}
use Rattle.base_fields.specs.Fields.{Front, value, no_field, front}
use Rattle.base_fields.specs.Laws.{front-taken}
use Rattle.frame_body.specs.declared.Edition.TheVariants.{One, Two}
use Rattle.frame_body.specs.Fields.{nonce_tag, digest_tag, cipher_tag, seal_tag, job_tag, job_length, job_size, Own, own_of, takes}
use Rattle.frame_body.specs.Fields.{fields, next, by_job, after_nonce, after_digest, after_job, after_cipher, after_seal, fields_of}
use Rattle.frame_body.proofs.Lengths.{job-taken}
use Rattle.frame_body.specs.Job.{job_number, jobs, job_bytes, JobSized}

-- every number below is that of its four bytes, which are bytes
pub number-bytes : (n : ℕ) → n < jobs → (job_number (job_bytes n) ≡ n) × (length (job_bytes n) ≡ job_length) × Below 256 (job_bytes n)
unfolding job_number
number-bytes n h = (omega arith, refl, (omega arith, (omega arith, (omega arith, (omega arith, tt)))))

four : {a b c d x y z w : ℕ} → a ≡ x → b ≡ y → c ≡ z → d ≡ w → ◌≡◌ {A = List ℕ} (a ∷ b ∷ c ∷ d ∷ []) (x ∷ y ∷ z ∷ w ∷ [])
four p q r s = rw (p, q, r, s)

-- and four bytes are those of their number
pub bytes-number : (job : List ℕ) → length job ≡ job_length → Below 256 job → (job_bytes (job_number job) ≡ job) × (job_number job < jobs)
unfolding job_number
bytes-number [] l b = absurd (omega arith)
bytes-number (x ∷ []) l b = absurd (omega arith)
bytes-number (x ∷ y ∷ []) l b = absurd (omega arith)
bytes-number (x ∷ y ∷ z ∷ []) l b = absurd (omega arith)
bytes-number (x ∷ y ∷ z ∷ w ∷ []) l b =
    (four (omega arith) (omega arith) (omega arith) (omega arith), omega arith)
bytes-number (x ∷ y ∷ z ∷ w ∷ v ∷ job) l b = absurd (omega arith)

module _ (own : Own) (z : length own.job ≡ job_size own.edition) (digest : List ℕ) where
  behind-seal : (cipher seal s : List ℕ) → JobSized (after_seal own digest cipher seal s)
  unfolding after_seal
  behind-seal cipher seal [] = z
  behind-seal cipher seal (x ∷ s) = tt

  behind-cipher : (cipher : List ℕ) (f : Front) → JobSized (next f (after_seal own digest cipher))
  behind-cipher cipher (value seal s) = behind-seal cipher seal s
  behind-cipher cipher no_field = tt

  behind-job : (f : Front) → JobSized (next f (after_cipher own digest))
  unfolding after_cipher
  behind-job (value cipher s) = behind-cipher cipher (front takes seal_tag s)
  behind-job no_field = tt

sized : (b : List ℕ) → JobSized (fields_of b)
unfolding fields_of after_nonce after_digest after_job
sized b = by-nonce (front takes nonce_tag b)
  where
    by_field : (nonce digest s : List ℕ) (f : Front) → front takes job_tag s ≡ f → JobSized (by_job f s (λ e job. after_job (own_of e nonce job) digest))
    by_field nonce digest s (value job r) e =
        behind-job (own_of Two nonce job) (job-taken (length job) (front-taken takes job_tag s job r e)) digest (front takes cipher_tag r)
    by_field nonce digest s no_field e = behind-job (own_of One nonce []) refl digest (front takes cipher_tag s)

    by-digest : (nonce : List ℕ) (f : Front) → JobSized (next f (after_digest nonce))
    by-digest nonce (value digest s) = by_field nonce digest s (front takes job_tag s) refl
    by-digest nonce no_field = tt

    by-nonce : (f : Front) → JobSized (next f after_nonce)
    by-nonce (value nonce s) = by-digest nonce (front takes digest_tag s)
    by-nonce no_field = tt

pub job-sized : (b : List ℕ) {own : Own} {digest cipher seal : List ℕ} → fields_of b ≡ fields own digest cipher seal
    → length own.job ≡ job_size own.edition
job-sized b e = rw e at (sized b)
