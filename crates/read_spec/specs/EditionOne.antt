-- A reader of edition one alone answers as before order W6, on every stretch of at most 274 bytes; stated against document 01's own four fields,
-- in their order, and its own bound. And what stands between 274 and 288 is no body of edition one. Assumes nothing.
use Rattle.std.specs.Prelude.{◌≡◌, Bool, true, false, cond, ℕ, ◌+◌, ◌*◌, ◌≤◌, eqb, ltb, length}
use Rattle.std.proofs.Math.Path.{refl}
use Rattle.std.proofs.Common.{sym, ap, ◌∙◌, arith, eqb-true, le-ltb}
use mathlib.Core.List.{List, [], ◌∷◌, ◌++◌, append-nil}
use Rattle.base_lists.specs.Below.{Below}
use Rattle.frame_stuff_spec.specs.Stuffing.{unstuffed, WellStuffed}
use Rattle.frame_stuff_spec.specs.RoundTrip.{stuff-unstuff}
use Rattle.frame_stuff_spec.specs.Lengths.{stuffed-at-most}
use Rattle.frame_stuff_spec.specs.Bytes.{unstuffed-below}
use Rattle.frame_stuff_spec.specs.Rules.{length_outside}
use Rattle.frame_stuff_spec.specs.Answers as stuffing-answers
use Rattle.frame_stuff_spec.proofs.Outcomes.{length-by-rules}
use Rattle.base_fields.specs.Fields.{Front, value, no_field, value_of, front, high_byte}
use Rattle.frame_body.specs.declared.Edition.TheVariants.{One, Two}
use Rattle.frame_body.specs.Fields.{nonce_tag, digest_tag, cipher_tag, seal_tag, job_tag, field, Own, own_of, job_field, associated, body, takes}
use Rattle.frame_body.specs.Fields.{Fields, fields, no_body, next, by_job, after_nonce, after_digest, after_job, after_cipher, after_seal, fields_of}
use Rattle.frame_body.proofs.OneToOne.{body-fields}
use Rattle.frame_body.specs.Lengths.{job_field_length}
use Rattle.frame_body.proofs.Lengths.{body-lengths}
use Rattle.frame_spec.specs.Told.{Told}
use Rattle.read_spec.specs.Editions.{allows, one_alone, among}
use Rattle.read_spec.specs.Judged.{Judged, shape}
use Rattle.read_spec.specs.Judging.{judge_fields, by_stuffing, judge}

-- document 01's bound
abbrev pub longest01 : ℕ
longest01 = 274

-- document 01's four fields in this order and once each, 01, 02, 03, 04, and nothing behind
unfoldable pub fields01 : List ℕ → Fields
fields01 b =
    next (front takes nonce_tag b) (λ nonce s.
    next (front takes digest_tag s) (λ digest r.
    next (front takes cipher_tag r) (λ cipher u.
    next (front takes seal_tag u) (after_seal (own_of One nonce []) digest cipher))))

-- document 01's judging: 7 for its length, 6, 7 for its fields, then what they hold
unfoldable pub judge01 : Told → List ℕ → Judged
judge01 t s =
    cond (ltb longest01 (length s)) shape
    (by_stuffing (stuffing-answers.answer_of (length_outside s)) (judge_fields t (fields01 (unstuffed s))))

-- its body and its associated data
pub body-one : (nonce digest cipher seal : List ℕ)
    → body (own_of One nonce []) digest cipher seal ≡ field nonce_tag nonce ++ field digest_tag digest ++ field cipher_tag cipher ++ field seal_tag seal
unfolding body associated job_field
body-one nonce digest cipher seal = simp append-nil

pub associated-one : (digest : List ℕ) → associated One digest [] ≡ field digest_tag digest
unfolding associated job_field
associated-one digest = append-nil (field digest_tag digest)

-- where a job stands first, no line ciphertext does
job-first : (s v r : List ℕ) → front takes job_tag s ≡ value v r → front takes cipher_tag s ≡ no_field
unfolding front
job-first [] v r e = refl
job-first (t ∷ []) v r e = refl
job-first (t ∷ high ∷ []) v r e = refl
job-first (t ∷ high ∷ low ∷ s) v r e = go (eqb t job_tag) refl e
  where
    go : (b : Bool) → eqb t job_tag ≡ b
        → cond b (cond (takes t (high * high_byte + low)) (value_of (high * high_byte + low) s) no_field) no_field ≡ value v r
        → front takes cipher_tag (t ∷ high ∷ low ∷ s) ≡ no_field
    go true p q = let is : t ≡ job_tag = eqb-true t job_tag p in rw is
    go false p q = absurd (let z : ◌≡◌ {A = ℕ} 0 1 = cc q in omega arith)

-- what is behind the job is of its edition
module _ (own : Own) (digest : List ℕ) where
  kept : allows one_alone own.edition ≡ true → (s : List ℕ) → among one_alone (after_job own digest s) ≡ after_job own digest s
  unfolding after_job after_cipher after_seal
  kept h s = by-cipher (front takes cipher_tag s)
    where
      by_end : (cipher seal r : List ℕ) → among one_alone (after_seal own digest cipher seal r) ≡ after_seal own digest cipher seal r
      by_end cipher seal [] = rw h
      by_end cipher seal (x ∷ r) = refl

      by-seal : (cipher : List ℕ) (f : Front) → among one_alone (next f (after_seal own digest cipher)) ≡ next f (after_seal own digest cipher)
      by-seal cipher (value seal r) = by_end cipher seal r
      by-seal cipher no_field = refl

      by-cipher : (f : Front) → among one_alone (next f (after_cipher own digest)) ≡ next f (after_cipher own digest)
      by-cipher (value cipher r) = by-seal cipher (front takes seal_tag r)
      by-cipher no_field = refl

  dropped : allows one_alone own.edition ≡ false → (s : List ℕ) → among one_alone (after_job own digest s) ≡ no_body
  unfolding after_job after_cipher after_seal
  dropped h s = by-cipher (front takes cipher_tag s)
    where
      by_end : (cipher seal r : List ℕ) → among one_alone (after_seal own digest cipher seal r) ≡ no_body
      by_end cipher seal [] = rw h
      by_end cipher seal (x ∷ r) = refl

      by-seal : (cipher : List ℕ) (f : Front) → among one_alone (next f (after_seal own digest cipher)) ≡ no_body
      by-seal cipher (value seal r) = by_end cipher seal r
      by-seal cipher no_field = refl

      by-cipher : (f : Front) → among one_alone (next f (after_cipher own digest)) ≡ no_body
      by-cipher (value cipher r) = by-seal cipher (front takes seal_tag r)
      by-cipher no_field = refl

-- the fields that a reader of edition one alone takes are document 01's
pub fields-as-before : (b : List ℕ) → among one_alone (fields_of b) ≡ fields01 b
unfolding fields_of after_nonce after_digest after_job after_cipher fields01 allows
fields-as-before b = by-nonce (front takes nonce_tag b)
  where
    by-job : (nonce digest s : List ℕ) (f : Front) → front takes job_tag s ≡ f
        → among one_alone (by_job f s (λ e job. after_job (own_of e nonce job) digest)) ≡ after_job (own_of One nonce []) digest s
    by-job nonce digest s no_field e = kept (own_of One nonce []) digest refl s
    by-job nonce digest s (value job r) e =
        dropped (own_of Two nonce job) digest refl r ∙ sym (ap (λ (f : Front). next f (after_cipher (own_of One nonce []) digest)) (job-first s job r e))

    by-digest : (nonce : List ℕ) (f : Front) → among one_alone (next f (after_digest nonce)) ≡ next f (λ digest r. after_job (own_of One nonce []) digest r)
    by-digest nonce (value digest s) = by-job nonce digest s (front takes job_tag s) refl
    by-digest nonce no_field = refl

    by-nonce : (f : Front) → among one_alone (next f after_nonce) ≡ next f (λ nonce s. next (front takes digest_tag s)
        (λ digest r. after_job (own_of One nonce []) digest r))
    by-nonce (value nonce s) = by-digest nonce (front takes digest_tag s)
    by-nonce no_field = refl

-- and so it answers as before
pub edition-one-as-before : (t : Told) (s : List ℕ) → length s ≤ longest01 → judge t one_alone s ≡ judge01 t s
unfolding judge judge01
edition-one-as-before t s h =
    rw (length-by-rules s (omega arith), le-ltb longest01 (length s) h) (ap (λ (f : Fields). by_stuffing (stuffing-answers.answer_of (length_outside s))
    (judge_fields t f)) (fields-as-before (unstuffed s)))

-- no well-stuffed stretch over 274 bytes has a body of edition one
pub edition-one-short : (s : List ℕ) → Below 256 s → WellStuffed s → {own : Own} {digest cipher T : List ℕ}
    → fields_of (unstuffed s) ≡ fields own digest cipher T → own.edition ≡ One → length s ≤ longest01
edition-one-short s bytes w {own} {digest} {cipher} {T} e i =
    let is = body-fields (unstuffed s) (unstuffed-below s bytes) e in
    let none : job_field_length own.edition ≡ 0 = ap job_field_length i in
    omega (arith, none, (body-lengths is.1).1, ap length is.0, stuffed-at-most (unstuffed s), ap length (stuff-unstuff w))
