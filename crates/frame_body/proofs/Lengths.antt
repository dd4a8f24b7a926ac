-- How long bodies are (document 01, 'A frame and a stream', and order W6), and what the tags' rules take. Assumes nothing.
use Rattle.std.specs.Prelude.{◌≡◌, refl, Bool, true, false, cond, List, ℕ, ◌+◌, ◌≤◌, leb, length}
use Rattle.std.proofs.Common.{arith, length-append, eq-eqb, le-leb, eqb-true, leb-true}
use Rattle.base_lists.specs.Never.{never}
use Rattle.line_spec.specs.Lines.{longest}
use Rattle.base_fields.specs.Laws.{length-field}
use Rattle.frame_body.specs.declared.Edition.{Edition}
use Rattle.frame_body.specs.declared.Edition.TheVariants.{One, Two}
use Rattle.frame_body.specs.Fields.{nonce_tag, digest_tag, cipher_tag, seal_tag, job_tag, nonce_length, digest_length, shortest, seal_length}
use Rattle.frame_body.specs.Fields.{job_length, job_size, Own, job_field, body, associated, takes}
use Rattle.frame_body.specs.Lengths.{job_field_length, associated_length, beside_cipher, shortest_body, longest_body, Sized}

-- order W6's numbers for edition two
pub edition-two-lengths : (associated_length Two ≡ 42) × (beside_cipher Two ≡ 79) × (longest_body Two ≡ 144)
edition-two-lengths = (refl, refl, refl)

pub job-field-most : (e : Edition) → job_field_length e ≤ job_field_length Two
job-field-most One = omega arith
job-field-most Two = omega arith

pub length-job-field : (e : Edition) (job : List ℕ) → length job ≡ job_size e → length (job_field e job) ≡ job_field_length e
unfolding job_field
length-job-field One job h = refl
length-job-field Two job h = omega (arith, length-field job_tag job)

pub length-associated : (e : Edition) (digest job : List ℕ) → length digest ≡ digest_length → length job ≡ job_size e
    → length (associated e digest job) ≡ associated_length e
unfolding associated
length-associated e digest job h j = rw length-append (omega (arith, length-field digest_tag digest, length-job-field e job j))

pub length-body : {own : Own} {digest cipher seal : List ℕ} → Sized own digest cipher seal
    → length (body own digest cipher seal) ≡ beside_cipher own.edition + length cipher
unfolding body
length-body {own} {digest} {cipher} {seal} z =
    simp (length-append, length-field)
    (omega (arith, z.nonce-is, length-associated own.edition digest own.job z.digest-is z.job_is, z.seal-is))

pub body-lengths : {own : Own} {digest cipher seal : List ℕ} → Sized own digest cipher seal
    → (shortest_body own.edition ≤ length (body own digest cipher seal)) × (length (body own digest cipher seal) ≤ longest_body own.edition)
body-lengths z = (omega (arith, length-body z, z.cipher-from), omega (arith, length-body z, z.cipher-to))

-- the rules take these lengths
pub takes-nonce : (n : ℕ) → n ≡ nonce_length → takes nonce_tag n ≡ true
unfolding takes
takes-nonce n e = eq-eqb n nonce_length e

pub takes-digest : (n : ℕ) → n ≡ digest_length → takes digest_tag n ≡ true
unfolding takes
takes-digest n e = eq-eqb n digest_length e

pub takes-cipher : (n : ℕ) → shortest ≤ n → n ≤ longest → takes cipher_tag n ≡ true
unfolding takes
takes-cipher n l h = rw (le-leb shortest n l) (le-leb n longest h)

pub takes-seal : (n : ℕ) → n ≡ seal_length → takes seal_tag n ≡ true
unfolding takes
takes-seal n e = eq-eqb n seal_length e

pub takes-job : (n : ℕ) → n ≡ job_length → takes job_tag n ≡ true
unfolding takes
takes-job n e = eq-eqb n job_length e

-- and no others
pub nonce-taken : (n : ℕ) → takes nonce_tag n ≡ true → n ≡ nonce_length
unfolding takes
nonce-taken n e = eqb-true n nonce_length e

pub digest-taken : (n : ℕ) → takes digest_tag n ≡ true → n ≡ digest_length
unfolding takes
digest-taken n e = eqb-true n digest_length e

pub cipher-taken : (n : ℕ) → takes cipher_tag n ≡ true → (shortest ≤ n) × (n ≤ longest)
unfolding takes
cipher-taken n = go (leb shortest n) refl
  where
    go : (t : Bool) → leb shortest n ≡ t → cond t (leb n longest) false ≡ true → (shortest ≤ n) × (n ≤ longest)
    go true p e = (leb-true shortest n p, leb-true n longest e)
    go false p e = never e

pub seal-taken : (n : ℕ) → takes seal_tag n ≡ true → n ≡ seal_length
unfolding takes
seal-taken n e = eqb-true n seal_length e

pub job-taken : (n : ℕ) → takes job_tag n ≡ true → n ≡ job_length
unfolding takes
job-taken n e = eqb-true n job_length e
