-- A body judged field by field, as `judge_body` goes from place to place. Assumes nothing.
use Rattle.std.specs.Prelude.{Some, None}
use mathlib.Core.Path.{◌≡◌, refl, sym, ap, ◌∙◌}
use mathlib.Core.Logic.{◌⊎◌, inl, inr, ⊎_elim}
use mathlib.Core.List.{List, [], ◌∷◌}
use Prim.Native.Nat.{ℕ, ◌+◌, ◌-◌, ◌≤◌, ◌<◌}
use native.Mathlib.Omega.{arith}
use lib.ListN.{length, drop, length-drop, drop_of_length-le}
use lib.Seq.{drop-cons, drop-drop}
use Rattle.base_fields.specs.Fields.{head_length, Front, value, no_field, front}
use Rattle.base_fields.specs.Laws.{front-stands}
use Rattle.frame_body.specs.declared.Edition.{Edition}
use Rattle.frame_body.specs.declared.Edition.TheVariants.{One, Two}
use Rattle.frame_body.specs.Fields.{nonce_tag, digest_tag, cipher_tag, seal_tag, job_tag, Own, own_of, takes}
use Rattle.frame_body.specs.Fields.{next, by_job, after_nonce, after_digest, after_job, after_cipher, after_seal, fields_of}
use Rattle.frame_body.specs.Answers.{Ends, Found, judged}

-- a field found at a place: its value, and the place behind it
pub record Step (tag : ℕ) (b : List ℕ) (at p : ℕ) : Type 0 where
  pub v : List ℕ
  pub is : front takes tag (drop at b) ≡ value v (drop p b)
  pub place : p ≡ at + head_length + length v
  pub inside : p ≤ length b

-- a field that is there
stepped : {tag at p : ℕ} {b v s : List ℕ} → front takes tag (drop at b) ≡ value v s → p ≡ at + head_length + length v → Step tag b at p
stepped {tag} {at} {p} {b} {v} {s} q e =
    let k = front-stands takes tag (drop at b) v s q in
    let there : at + (head_length + length v) ≡ p = omega arith in
    record {
      v = v;
      is = q ∙ ap (value v) (k.1 ∙ drop-drop (head_length + length v) at b ∙ ap (λ (m : ℕ). drop m b) there);
      place = e;
      inside = omega (arith, k.2, length-drop at b);
    }

-- there is no field, or one that ends at the place told
look : {tag at p : ℕ} {b : List ℕ} → Found b tag at p → (front takes tag (drop at b) ≡ no_field) ⊎ Step tag b at p
look {tag} {at} {p} {b} f = cases (front takes tag (drop at b)) refl f.ends
  where
    cases : (x : Front) → front takes tag (drop at b) ≡ x → Ends (length b) at p x → (front takes tag (drop at b) ≡ no_field) ⊎ Step tag b at p
    cases no_field q e = inl q
    cases (value v s) q e = inr (stepped q e)

-- where there is none, the place told is past the end; and so is every place told from there on
missing : {tag at p : ℕ} {b : List ℕ} → Found b tag at p → front takes tag (drop at b) ≡ no_field → length b < p
missing {tag} {at} {p} {b} f e = rw e at f.ends

past : {tag at p : ℕ} {b : List ℕ} → Found b tag at p → length b < at → length b < p
unfolding front
past {tag} {at} {p} {b} f h = missing f (rw (drop_of_length-le b {i = at} (omega arith)))

-- a place within the bytes is behind a field
within : {tag at p : ℕ} {b : List ℕ} → Found b tag at p → p ≤ length b → Step tag b at p
within {tag} {at} {p} {b} f h = cases (front takes tag (drop at b)) refl f.ends
  where
    cases : (x : Front) → front takes tag (drop at b) ≡ x → Ends (length b) at p x → Step tag b at p
    cases no_field q e = absurd (omega (arith, e, h))
    cases (value v s) q e = stepped q e

-- what is told of the fields behind the job depends on the edition, and on nothing that stands before them
told-by-edition : (e : Edition) (nonce job digest s : List ℕ) → judged (after_job (own_of e [] []) [] s) ≡ judged (after_job (own_of e nonce job) digest s)
unfolding after_job after_cipher after_seal
told-by-edition e nonce job digest s = by-cipher (front takes cipher_tag s)
  where
    by_end : (cipher seal r : List ℕ)
        → judged (after_seal (own_of e [] []) [] cipher seal r) ≡ judged (after_seal (own_of e nonce job) digest cipher seal r)
    by_end cipher seal [] = refl
    by_end cipher seal (x ∷ r) = refl

    by-seal : (cipher : List ℕ) (f : Front)
        → judged (next f (after_seal (own_of e [] []) [] cipher)) ≡ judged (next f (after_seal (own_of e nonce job) digest cipher))
    by-seal cipher (value seal r) = by_end cipher seal r
    by-seal cipher no_field = refl

    by-cipher : (f : Front) → judged (next f (after_cipher (own_of e [] []) [])) ≡ judged (next f (after_cipher (own_of e nonce job) digest))
    by-cipher (value cipher r) = by-seal cipher (front takes seal_tag r)
    by-cipher no_field = refl

-- the line ciphertext and the seal one behind the other from the place p: where one is missing, the bytes are no body
module _ (own : Own) (digest b : List ℕ) (p : ℕ) where
  no-cipher : front takes cipher_tag (drop p b) ≡ no_field → None ≡ judged (after_job own digest (drop p b))
  unfolding after_job
  no-cipher e = rw e

  module _ {p₁ : ℕ} (s₁ : Step cipher_tag b p p₁) where
    past-cipher : after_job own digest (drop p b) ≡ after_cipher own digest s₁.v (drop p₁ b)
    unfolding after_job
    past-cipher = ap (λ (f : Front). next f (after_cipher own digest)) s₁.is

    no-seal : front takes seal_tag (drop p₁ b) ≡ no_field → None ≡ judged (after_job own digest (drop p b))
    unfolding after_cipher
    no-seal e = rw (past-cipher, e)

    module _ {p₂ : ℕ} (s₂ : Step seal_tag b p₁ p₂) where
      past-seal : after_job own digest (drop p b) ≡ after_seal own digest s₁.v s₂.v (drop p₂ b)
      unfolding after_cipher
      past-seal = past-cipher ∙ ap (λ (f : Front). next f (after_seal own digest s₁.v)) s₂.is

      more-behind : (p₂ ≡ length b → ⊥) → None ≡ judged (after_job own digest (drop p b))
      unfolding after_seal
      more-behind h = rw (past-seal, drop-cons b p₂ 0 (omega (arith, s₂.inside, h)))

      all-behind : p₂ ≡ length b → Some (own.edition, p₁ - p - head_length) ≡ judged (after_job own digest (drop p b))
      unfolding after_seal
      all-behind h =
          let n : p₁ - p - head_length ≡ length s₁.v = omega (arith, s₁.place) in
          rw (past-seal, drop_of_length-le b {i = p₂} (omega arith), n)

-- two places told one behind the other: the last is the end of the bytes exactly for the rest of a body
module _ (own : Own) (digest : List ℕ) {b : List ℕ} {p p₁ p₂ : ℕ} (f₁ : Found b cipher_tag p p₁) (f₂ : Found b seal_tag p₁ p₂) where
  pub no-rest : (p₂ ≡ length b → ⊥) → None ≡ judged (after_job own digest (drop p b))
  no-rest h =
      ⊎_elim (no-cipher own digest b p) (λ s₁. ⊎_elim (no-seal own digest b p s₁) (λ s₂. more-behind own digest b p s₁ s₂ h) (look f₂)) (look f₁)

  module _ (h : p₂ ≡ length b) where
    s₂ : Step seal_tag b p₁ p₂
    s₂ = within f₂ (omega arith)

    s₁ : Step cipher_tag b p p₁
    s₁ = within f₁ (omega (arith, s₂.place))

    pub all_rest : Some (own.edition, p₁ - p - head_length) ≡ judged (after_job own digest (drop p b))
    all_rest = all-behind own digest b p s₁ s₂ h

-- past the end of the bytes nothing is found
nothing-behind : (own : Own) (digest b : List ℕ) (p : ℕ) → length b < p → judged (after_job own digest (drop p b)) ≡ None
unfolding after_job front
nothing-behind own digest b p h = rw (drop_of_length-le b {i = p} (omega arith))

-- nonce, digest and job one behind the other
module _ {b : List ℕ} {p₁ p₂ p₃ : ℕ} (f₁ : Found b nonce_tag 0 p₁) (f₂ : Found b digest_tag p₁ p₂) (f₃ : Found b job_tag p₂ p₃) where
  module _ (s₁ : Step nonce_tag b 0 p₁) (s₂ : Step digest_tag b p₁ p₂) where
    past-digest : fields_of b ≡ after_digest s₁.v s₂.v (drop p₂ b)
    unfolding fields_of after_nonce
    past-digest =
        ap (λ (f : Front). next f after_nonce) s₁.is ∙ ap (λ (f : Front). next f (after_digest s₁.v)) s₂.is

    with-job : Step job_tag b p₂ p₃ → judged (after_job (own_of Two [] []) [] (drop p₃ b)) ≡ judged (fields_of b)
    unfolding after_digest
    with-job s₃ =
        told-by-edition Two s₁.v s₃.v s₂.v (drop p₃ b)
        ∙ sym (ap judged (past-digest ∙ ap (λ (f : Front). by_job f (drop p₂ b) (λ e job. after_job (own_of e s₁.v job) s₂.v)) s₃.is))

    with_none : front takes job_tag (drop p₂ b) ≡ no_field → judged (after_job (own_of One [] []) [] (drop p₂ b)) ≡ judged (fields_of b)
    unfolding after_digest
    with_none e =
        told-by-edition One s₁.v [] s₂.v (drop p₂ b)
        ∙ sym (ap judged (past-digest ∙ ap (λ (f : Front). by_job f (drop p₂ b) (λ e job. after_job (own_of e s₁.v job) s₂.v)) e))

  -- a job that ends within the bytes: edition two
  pub edition-two : p₃ ≤ length b → judged (after_job (own_of Two [] []) [] (drop p₃ b)) ≡ judged (fields_of b)
  edition-two h =
      let s₃ = within f₃ h in
      let s₂ = within f₂ (omega (arith, s₃.place)) in
      let s₁ = within f₁ (omega (arith, s₂.place, s₂.inside)) in
      with-job s₁ s₂ s₃

  -- none: edition one, if the digest is there
  no-nonce : front takes nonce_tag b ≡ no_field → length b < p₁ → None ≡ judged (fields_of b)
  unfolding fields_of
  no-nonce e h = rw e

  no-digest : Step nonce_tag b 0 p₁ → front takes digest_tag (drop p₁ b) ≡ no_field → None ≡ judged (fields_of b)
  unfolding fields_of after_nonce
  no-digest s₁ e = rw (s₁.is, e)

  pub edition-one : length b < p₃ → judged (after_job (own_of One [] []) [] (drop p₂ b)) ≡ judged (fields_of b)
  edition-one h =
      ⊎_elim
      (λ e. nothing-behind (own_of One [] []) [] b p₂ (past f₂ (missing f₁ e)) ∙ no-nonce e (missing f₁ e))
      (λ s₁. ⊎_elim
      (λ e. nothing-behind (own_of One [] []) [] b p₂ (missing f₂ e) ∙ no-digest s₁ e)
      (λ s₂. ⊎_elim (with_none s₁ s₂) (λ s₃. absurd (omega (arith, s₃.inside))) (look f₃))
      (look f₂))
      (look f₁)
