-- A body is one to one with its fields: fields put together are taken apart again as they were, and bytes that can be taken apart
-- are these fields put together. Assumes nothing.
use Rattle.std.specs.Prelude.{◌≡◌, refl, true, List, [], ◌∷◌, ◌++◌, ℕ, length}
use Rattle.std.proofs.Common.{sym, ap, ◌∙◌, append_assoc, append-nil, arith}
use Rattle.base_lists.specs.Below.{Below}
use Rattle.base_fields.specs.Fields.{Front, value, no_field, front}
use Rattle.base_fields.specs.Laws.{front-field, front-value}
use Rattle.frame_body.specs.declared.Edition.{Edition}
use Rattle.frame_body.specs.declared.Edition.TheVariants.{One, Two}
use Rattle.frame_body.specs.Fields.{nonce_tag, digest_tag, cipher_tag, seal_tag, job_tag, job_size, field, Own, own_of, job_field, associated, body}
use Rattle.frame_body.specs.Fields.{takes, Fields, fields, no_body, next, by_job, after_nonce, after_digest, after_job, after_cipher, after_seal, fields_of}
use Rattle.frame_body.specs.Lengths.{Sized}
use Rattle.frame_body.proofs.Lengths.{takes-nonce, takes-digest, takes-cipher, takes-seal, takes-job}
use Rattle.frame_body.proofs.Lengths.{nonce-taken, digest-taken, cipher-taken, seal-taken, job-taken}
use Rattle.frame_body.specs.OneToOne.{Tells}

-- on behind a field
pub on : (tag : ℕ) (v s : List ℕ) (go : List ℕ → List ℕ → Fields) → takes tag (length v) ≡ true → next (front takes tag (field tag v ++ s)) go ≡ go v s
on tag v s go h = ap (λ (f : Front). next f go) (front-field takes tag v s h)

-- a body from its front
from_front : (own : Own) (digest cipher seal : List ℕ)
    → body own digest cipher seal
    ≡ field nonce_tag own.nonce ++ (field digest_tag digest ++ (job_field own.edition own.job ++ (field cipher_tag cipher ++ (field seal_tag seal ++ []))))
unfolding body associated
from_front own digest cipher seal = simp (append_assoc, append-nil)

-- on behind the job, or where in edition one none stands
on-job : (e : Edition) (nonce job digest cipher r : List ℕ) → length job ≡ job_size e
    → after_digest nonce digest (job_field e job ++ (field cipher_tag cipher ++ r)) ≡ after_job (own_of e nonce job) digest (field cipher_tag cipher ++ r)
unfolding after_digest job_field front field
on-job One nonce [] digest cipher r l = refl
on-job One nonce (x ∷ job) digest cipher r l = absurd (omega arith)
on-job Two nonce job digest cipher r l =
    ap (λ (f : Front). by_job f (field job_tag job ++ (field cipher_tag cipher ++ r)) (λ e j. after_job (own_of e nonce j) digest))
    (front-field takes job_tag job (field cipher_tag cipher ++ r) (takes-job (length job) l))

-- fields put together are taken apart as they were
pub fields-body : {own : Own} {digest cipher seal : List ℕ} → Sized own digest cipher seal
    → fields_of (body own digest cipher seal) ≡ fields own digest cipher seal
unfolding fields_of after_nonce after_job after_cipher after_seal
fields-body {own} {digest} {cipher} {seal} z =
    ap fields_of (from_front own digest cipher seal)
    ∙ on nonce_tag own.nonce (field digest_tag digest ++ (job_field own.edition own.job ++ (field cipher_tag cipher ++ (field seal_tag seal ++ []))))
    after_nonce
    (takes-nonce (length own.nonce) z.nonce-is)
    ∙ on digest_tag digest (job_field own.edition own.job ++ (field cipher_tag cipher ++ (field seal_tag seal ++ []))) (after_digest own.nonce)
    (takes-digest (length digest) z.digest-is)
    ∙ on-job own.edition own.nonce own.job digest cipher (field seal_tag seal ++ []) z.job_is
    ∙ on cipher_tag cipher (field seal_tag seal ++ []) (after_cipher own digest)
    (takes-cipher (length cipher) z.cipher-from z.cipher-to)
    ∙ on seal_tag seal [] (after_seal own digest cipher) (takes-seal (length seal) z.seal-is)

-- what is behind some bytes is bytes
behind : (x s : List ℕ) → Below 256 (x ++ s) → Below 256 s
behind [] s h = h
behind (a ∷ x) s h = behind x s h.1

-- what holds of no body, and of whatever follows a field, holds of what follows the first field there is
by_field : (tag : ℕ) (b : List ℕ) (go : List ℕ → List ℕ → Fields) (P : Fields → Type 0) → Below 256 b → P no_body
    → ((v s : List ℕ) → b ≡ field tag v ++ s → takes tag (length v) ≡ true → Below 256 s → P (go v s)) → P (next (front takes tag b) go)
by_field tag b go P h none some = cases (front takes tag b) refl
  where
    cases : (f : Front) → front takes tag b ≡ f → P (next f go)
    cases no_field e = none
    cases (value v s) e =
        let is = front-value takes tag b v s h e in some v s is.0 is.1 (behind (field tag v) s (rw is.0 at h))

-- the same of the job, whose field may be missing
by-job : (b : List ℕ) (go : Edition → List ℕ → List ℕ → Fields) (P : Fields → Type 0) → Below 256 b
    → ((e : Edition) (job s : List ℕ) → b ≡ job_field e job ++ s → length job ≡ job_size e → Below 256 s → P (go e job s))
    → P (by_job (front takes job_tag b) b go)
unfolding job_field
by-job b go P h some = cases (front takes job_tag b) refl
  where
    cases : (f : Front) → front takes job_tag b ≡ f → P (by_job f b go)
    cases no_field e = some One [] b refl refl h
    cases (value job s) e =
        let is = front-value takes job_tag b job s h e in
        some Two job s is.0 (job-taken (length job) is.1) (behind (field job_tag job) s (rw is.0 at h))

tells : (b : List ℕ) → Below 256 b → Tells b (fields_of b)
unfolding fields_of after_nonce after_digest after_job after_cipher after_seal
tells b h =
    by_field nonce_tag b after_nonce (Tells b) h tt (λ nonce b₁ e₁ t₁ h₁.
    by_field digest_tag b₁ (after_digest nonce) (Tells b) h₁ tt (λ digest b₂ e₂ t₂ h₂.
    by-job b₂ (λ e job. after_job (own_of e nonce job) digest) (Tells b) h₂ (λ e job b₃ e₃ j h₃.
    by_field cipher_tag b₃ (after_cipher (own_of e nonce job) digest) (Tells b) h₃ tt (λ cipher b₄ e₄ t₄ h₄.
    by_field seal_tag b₄ (after_seal (own_of e nonce job) digest cipher) (Tells b) h₄ tt (λ seal b₅ e₅ t₅ h₅.
    whole (own_of e nonce job) digest cipher seal t₁ j t₂ t₄ t₅ b₅ (e₁ ∙ rw (e₂, e₃, e₄, e₅)))))))
  where
    whole : (own : Own) (digest cipher seal : List ℕ) → takes nonce_tag (length own.nonce) ≡ true → length own.job ≡ job_size own.edition
        → takes digest_tag (length digest) ≡ true → takes cipher_tag (length cipher) ≡ true → takes seal_tag (length seal) ≡ true → (s : List ℕ)
        → b ≡ field nonce_tag own.nonce ++ (field digest_tag digest ++ (job_field own.edition own.job
        ++ (field cipher_tag cipher ++ (field seal_tag seal ++ s))))
        → Tells b (after_seal own digest cipher seal s)
    whole own digest cipher seal p j q r u (x ∷ s) e = tt
    whole own digest cipher seal p j q r u [] e = (
      e ∙ sym (from_front own digest cipher seal),
      record {
        nonce-is = nonce-taken (length own.nonce) p;
        job_is = j;
        digest-is = digest-taken (length digest) q;
        cipher-from = (cipher-taken (length cipher) r).0;
        cipher-to = (cipher-taken (length cipher) r).1;
        seal-is = seal-taken (length seal) u;
      },
    )

-- bytes that can be taken apart are these fields put together, of the document's lengths
pub body-fields : {own : Own} {digest cipher seal : List ℕ} (b : List ℕ) → Below 256 b → fields_of b ≡ fields own digest cipher seal
    → (b ≡ body own digest cipher seal) × Sized own digest cipher seal
body-fields b h e = rw e at (tells b h)

-- no two choices of values have one body
pub body-one-to-one : {w w' : Own} {d c s d' c' s' : List ℕ} → Sized w d c s → Sized w' d' c' s' → body w d c s ≡ body w' d' c' s'
    → fields w d c s ≡ fields w' d' c' s'
body-one-to-one z z' e = sym (fields-body z) ∙ ap fields_of e ∙ fields-body z'

-- no bytes are a body of both editions (order W6)
pub one-edition : {w w' : Own} {d c s d' c' s' : List ℕ} → Sized w d c s → Sized w' d' c' s' → body w d c s ≡ body w' d' c' s'
    → w.edition ≡ w'.edition
one-edition {w} {w'} z z' e = let same : w ≡ w' = cc (body-one-to-one z z' e) in ap (λ (o : Own). o.edition) same
