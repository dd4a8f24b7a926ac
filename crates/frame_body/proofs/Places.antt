-- Where the values stand in a body: all places are fixed by the edition and the length of the line ciphertext. Assumes nothing.
use Rattle.std.specs.Prelude.{◌≡◌, ℕ, ◌+◌, length, take, drop}
use Rattle.std.proofs.Math.Path.{refl}
use mathlib.Core.List.{List, [], ◌++◌, append_assoc, append-nil}
use Rattle.std.proofs.Common.{arith, length-append, take_at, drop_at}
use Rattle.std.proofs.Math.Seq.{drop-append-add}
use Rattle.base_fields.specs.Laws.{length-field}
use Rattle.frame_body.specs.declared.Edition.TheVariants.{Two}
use Rattle.frame_body.specs.Fields.{nonce_tag, digest_tag, cipher_tag, seal_tag, job_tag, nonce_length, digest_length, seal_length}
use Rattle.frame_body.specs.Fields.{job_length, head_length, field, Own, own_of, job_field, body, associated}
use Rattle.frame_body.specs.Lengths.{Sized, associated_length}
use Rattle.frame_body.proofs.Lengths.{length-associated}
use Rattle.frame_body.specs.Places.{nonce_at, associated_at, digest_at, job_at, cipher_at, seal_at}

-- a part behind p, and a field's value
part_at : (p f s : List ℕ) (at k : ℕ) → length p ≡ at → length f ≡ k → take k (drop at (p ++ (f ++ s))) ≡ f
part_at p f s at k h e = rw (drop_at p (f ++ s) at h) (take_at f s k e)

value-at : (p : List ℕ) (tag : ℕ) (v s : List ℕ) (at k : ℕ) → length p + head_length ≡ at → length v ≡ k
    → take k (drop at (p ++ (field tag v ++ s))) ≡ v
unfolding field
value-at p tag v s at k h e = rw (← h, drop-append-add p (field tag v ++ s) head_length) (take_at v s k e)

module _ (own : Own) (digest cipher seal : List ℕ) (z : Sized own digest cipher seal) where
  n-is : length (field nonce_tag own.nonce) ≡ head_length + nonce_length
  n-is = omega (arith, length-field nonce_tag own.nonce, z.nonce-is)

  a-is : length (associated own.edition digest own.job) ≡ associated_length own.edition
  a-is = length-associated own.edition digest own.job z.digest-is z.job_is

  na-is : length (field nonce_tag own.nonce ++ associated own.edition digest own.job) ≡ head_length + nonce_length + associated_length own.edition
  na-is = omega (arith, length-append (field nonce_tag own.nonce) (associated own.edition digest own.job), n-is, a-is)

  nac-is : length (field nonce_tag own.nonce ++ associated own.edition digest own.job ++ field cipher_tag cipher)
      ≡ head_length + nonce_length + associated_length own.edition + head_length + length cipher
  nac-is =
      omega (
        arith,
        length-append (field nonce_tag own.nonce ++ associated own.edition digest own.job) (field cipher_tag cipher),
        na-is,
        length-field cipher_tag cipher,
      )

  pub nonce-at : take nonce_length (drop nonce_at (body own digest cipher seal)) ≡ own.nonce
  unfolding body
  nonce-at =
      simp append_assoc (value-at [] nonce_tag own.nonce (associated own.edition digest own.job ++ (field cipher_tag cipher ++ field seal_tag seal))
      nonce_at nonce_length refl z.nonce-is)

  pub associated-at : take (associated_length own.edition) (drop associated_at (body own digest cipher seal)) ≡ associated own.edition digest own.job
  unfolding body
  associated-at =
      simp append_assoc
      (part_at (field nonce_tag own.nonce) (associated own.edition digest own.job) (field cipher_tag cipher ++ field seal_tag seal) associated_at
      (associated_length own.edition) n-is a-is)

  pub digest-at : take digest_length (drop digest_at (body own digest cipher seal)) ≡ digest
  unfolding body associated
  digest-at =
      simp append_assoc
      (value-at (field nonce_tag own.nonce) digest_tag digest (job_field own.edition own.job ++ (field cipher_tag cipher ++ field seal_tag seal)) digest_at
      digest_length (omega (arith, n-is)) z.digest-is)

  pub cipher-at : take (length cipher) (drop (cipher_at own.edition) (body own digest cipher seal)) ≡ cipher
  unfolding body
  cipher-at =
      rw (append_assoc (field nonce_tag own.nonce ++ associated own.edition digest own.job) (field cipher_tag cipher) (field seal_tag seal))
      (value-at (field nonce_tag own.nonce ++ associated own.edition digest own.job) cipher_tag cipher (field seal_tag seal) (cipher_at own.edition)
      (length cipher) (omega (arith, na-is)) refl)

  pub seal-at : take seal_length (drop (seal_at own.edition (length cipher)) (body own digest cipher seal)) ≡ seal
  unfolding body
  seal-at =
      rw (← append-nil (field seal_tag seal))
      (value-at (field nonce_tag own.nonce ++ associated own.edition digest own.job ++ field cipher_tag cipher) seal_tag seal []
      (seal_at own.edition (length cipher)) seal_length (omega (arith, nac-is)) z.seal-is)

-- in edition two
pub job-at : (nonce job digest cipher seal : List ℕ) → Sized (own_of Two nonce job) digest cipher seal
    → take job_length (drop job_at (body (own_of Two nonce job) digest cipher seal)) ≡ job
unfolding body associated job_field
job-at nonce job digest cipher seal z =
    simp append_assoc
    (rw append_assoc at (value-at (field nonce_tag nonce ++ field digest_tag digest) job_tag job (field cipher_tag cipher ++ field seal_tag seal) job_at job_length
    (omega (
      arith,
      length-append (field nonce_tag nonce) (field digest_tag digest),
      length-field nonce_tag nonce,
      length-field digest_tag digest,
      z.nonce-is,
      z.digest-is,
    ))
    z.job_is))
