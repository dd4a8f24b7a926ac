-- The lengths of the values that `put_body` and `put_associated` take. Assumes nothing.
use Rattle.std.specs.Prelude.{◌≡◌, refl, Bool, true, false, cond, List, ℕ, length}
use Rattle.std.proofs.Common.{eq-eqb, eqb-true}
use Rattle.base_lists.specs.Never.{never}
use Rattle.frame_body.specs.declared.Edition.{Edition}
use Rattle.frame_body.specs.declared.Edition.TheVariants.{One, Two}
use Rattle.frame_body.specs.Fields.{nonce_tag, digest_tag, cipher_tag, seal_tag, digest_length, job_size, Own, takes}
use Rattle.frame_body.specs.Lengths.{Sized}
use Rattle.frame_body.proofs.Lengths.{takes-nonce, takes-digest, takes-cipher, takes-seal, takes-job}
use Rattle.frame_body.proofs.Lengths.{nonce-taken, digest-taken, cipher-taken, seal-taken, job-taken}
use Rattle.frame_put.specs.Answers.{job_fits, fitting_associated, fitting}

-- a job of its edition's length fits, and no other
job-fits : (e : Edition) (job : List ℕ) → length job ≡ job_size e → job_fits e job ≡ true
job-fits One job h = eq-eqb (length job) 0 h
job-fits Two job h = takes-job (length job) h

fits-job : (e : Edition) (job : List ℕ) → job_fits e job ≡ true → length job ≡ job_size e
fits-job One job h = eqb-true (length job) 0 h
fits-job Two job h = job-taken (length job) h

-- digest and job of their lengths fit, and no others
pub sized-associated : (e : Edition) (digest job : List ℕ) → length digest ≡ digest_length → length job ≡ job_size e
    → fitting_associated e digest job ≡ true
unfolding fitting_associated
sized-associated e digest job d j = rw (takes-digest (length digest) d) (job-fits e job j)

pub associated-sized : (e : Edition) (digest job : List ℕ) → fitting_associated e digest job ≡ true
    → (length digest ≡ digest_length) × (length job ≡ job_size e)
unfolding fitting_associated
associated-sized e digest job = go (takes digest_tag (length digest)) refl
  where
    go : (t : Bool) → takes digest_tag (length digest) ≡ t → cond t (job_fits e job) false ≡ true
        → (length digest ≡ digest_length) × (length job ≡ job_size e)
    go true p q = (digest-taken (length digest) p, fits-job e job q)
    go false p q = never q

-- values of those lengths fit, and no others
pub sized-fitting : {own : Own} {digest cipher seal : List ℕ} → Sized own digest cipher seal → fitting own digest cipher seal ≡ true
unfolding fitting
sized-fitting {own} {digest} {cipher} {seal} z =
    rw (
      takes-nonce (length own.nonce) z.nonce-is,
      sized-associated own.edition digest own.job z.digest-is z.job_is,
      takes-cipher (length cipher) z.cipher-from z.cipher-to,
    )
    (takes-seal (length seal) z.seal-is)

pub fitting-sized : (own : Own) (digest cipher seal : List ℕ) → fitting own digest cipher seal ≡ true → Sized own digest cipher seal
unfolding fitting
fitting-sized own digest cipher seal =
    go (takes nonce_tag (length own.nonce)) refl (fitting_associated own.edition digest own.job) refl (takes cipher_tag (length cipher)) refl
  where
    go : (t : Bool) → takes nonce_tag (length own.nonce) ≡ t → (u : Bool) → fitting_associated own.edition digest own.job ≡ u
        → (v : Bool) → takes cipher_tag (length cipher) ≡ v
        → cond t (cond u (cond v (takes seal_tag (length seal)) false) false) false ≡ true → Sized own digest cipher seal
    go true p true q true r e =
        let a = associated-sized own.edition digest own.job q in
        record {
          nonce-is = nonce-taken (length own.nonce) p;
          job_is = a.1;
          digest-is = a.0;
          cipher-from = (cipher-taken (length cipher) r).0;
          cipher-to = (cipher-taken (length cipher) r).1;
          seal-is = seal-taken (length seal) e;
        }
    go true p true q false r e = never e
    go true p false q v r e = never e
    go false p u q v r e = never e
