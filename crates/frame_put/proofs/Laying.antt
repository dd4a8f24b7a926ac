-- Room for the fields of a body one behind the other, and what is laid whole, as `put_body` goes. Assumes nothing.
use Rattle.std.specs.Prelude.{Ok}
use mathlib.Core.Path.{◌≡◌, sym, ap, ◌∙◌}
use mathlib.Core.Bool.{true}
use mathlib.Core.List.{List, [], ◌++◌, append-nil}
use Prim.Native.Nat.{ℕ, ◌+◌, ◌≤◌}
use native.Mathlib.Omega.{arith}
use lib.ListN.{length, length-append}
use lib.Seq.{sets, length-sets}
use Rattle.base_fields.specs.Fields.{head_length, field, field_end, field_out}
use Rattle.base_fields.specs.Laws.{length-field, put-fits}
use Rattle.base_fields.specs.Laying.{Laid, Space, sets_more, laid_none, laid_more, laid-field}
use Rattle.frame_body.specs.declared.Edition.{Edition}
use Rattle.frame_body.specs.declared.Edition.TheVariants.{One, Two}
use Rattle.frame_body.specs.Fields.{nonce_tag, digest_tag, cipher_tag, seal_tag, job_tag, nonce_length, digest_length}
use Rattle.frame_body.specs.Fields.{seal_length, job_length, job_size, Own, job_field, body, associated}
use Rattle.frame_body.specs.Lengths.{Sized, associated_length, beside_cipher}
use Rattle.frame_body.proofs.Lengths.{length-associated}
use Rattle.frame_put.specs.Fitting.{fitting-sized}
use Rattle.frame_put.specs.Answers.{fitting, put_answer, put_out, associated_answer, associated_out}
use Rattle.frame_put.specs.Outcomes.{put-done, associated-done}

-- field 02, and in edition two field 05 behind it, written at a place with room
module _ (o : List ℕ) (at : ℕ) (e : Edition) (digest job : List ℕ) (d : length digest ≡ digest_length) (j : length job ≡ job_size e)
    (room : at + length (associated e digest job) ≤ length o) where
  first-room : at + length (field digest_tag digest) ≤ length o
  unfolding associated
  first-room = omega (arith, room, length-append (field digest_tag digest) (job_field e job))

  pub first-put : (field_end o at digest_tag digest ≡ at + length (field digest_tag digest))
      × (field_out o at digest_tag digest ≡ sets o at (field digest_tag digest))
  first-put = put-fits o at digest_tag digest first-room (omega arith)

  pub laid_one : e ≡ One → (out : List ℕ) (r : ℕ) → r ≡ field_end o at digest_tag digest → out ≡ field_out o at digest_tag digest
      → (r ≡ at + length (associated e digest job)) × (out ≡ sets o at (associated e digest job))
  unfolding associated job_field
  laid_one i out r p q = (rw (i, append-nil) (p ∙ first-put.0), rw (i, append-nil) (q ∙ first-put.1))

  pub laid-two : e ≡ Two → (out out' : List ℕ) (r r' : ℕ) → r ≡ field_end o at digest_tag digest → out ≡ field_out o at digest_tag digest
      → r' ≡ field_end out r job_tag job → out' ≡ field_out out r job_tag job
      → (r' ≡ at + length (associated e digest job)) × (out' ≡ sets o at (associated e digest job))
  unfolding associated job_field
  laid-two i out out' r r' p q p' q' =
      let two : length job ≡ job_length = rw i at j in
      let all : at + length (field digest_tag digest ++ field job_tag job) ≤ length o = rw i at room in
      let here : r ≡ at + length (field digest_tag digest) = p ∙ first-put.0 in
      let held : out ≡ sets o at (field digest_tag digest) = q ∙ first-put.1 in
      let same : length out ≡ length o = ap length held ∙ length-sets o at (field digest_tag digest) in
      let sum = length-append (field digest_tag digest) (field job_tag job) in
      let second = put-fits out r job_tag job (omega (arith, all, here, same, sum)) (omega (arith, two)) in
      (rw i (p' ∙ second.0 ∙ omega (arith, here, sum)), rw i (q' ∙ second.1 ∙ rw held (sets_more (field digest_tag digest) (field job_tag job) o at r here)))

-- values of the right lengths, and room for them
pub record Ready (own : Own) (digest cipher seal o : List ℕ) : Type 0 where
  pub sized : Sized own digest cipher seal
  pub room : beside_cipher own.edition + length cipher ≤ length o

module _ {own : Own} {digest cipher seal o : List ℕ} (r : Ready own digest cipher seal o) where
  abbrev n : List ℕ
  n = field nonce_tag own.nonce

  abbrev d : List ℕ
  d = associated own.edition digest own.job

  abbrev c : List ℕ
  c = field cipher_tag cipher

  abbrev s : List ℕ
  s = field seal_tag seal

  lengths : (length n ≡ head_length + nonce_length) × (length d ≡ associated_length own.edition) × (length c ≡ head_length + length cipher)
      × (length s ≡ head_length + seal_length)
  lengths = (
    omega (arith, length-field nonce_tag own.nonce, r.sized.nonce-is),
    length-associated own.edition digest own.job r.sized.digest-is r.sized.job_is,
    length-field cipher_tag cipher,
    omega (arith, length-field seal_tag seal, r.sized.seal-is),
  )

  pub room-nonce : Space [] n o
  room-nonce = record { both = omega (arith, lengths, r.room) }

  pub room-associated : Space n d o
  room-associated = record { both = omega (arith, lengths, r.room) }

  pub room-cipher : Space (n ++ d) c o
  room-cipher = record { both = rw length-append (omega (arith, lengths, r.room)) }

  pub room-seal : Space (n ++ d ++ c) s o
  room-seal = record { both = simp length-append (omega (arith, lengths, r.room)) }

  -- the fields laid so far, one more at a time
  pub laid_nonce : {out : List ℕ} {k : ℕ} → k ≡ field_end o 0 nonce_tag own.nonce → out ≡ field_out o 0 nonce_tag own.nonce → Laid o out n k
  laid_nonce e g = laid-field nonce_tag own.nonce (laid_none o) room-nonce (omega (arith, r.sized)) e g

  pub laid_associated : {out out' : List ℕ} {at k : ℕ} → Laid o out n at → k ≡ at + length d → out' ≡ sets out at d → Laid o out' (n ++ d) k
  laid_associated l e g = laid_more l room-associated e g

  pub laid_cipher : {out out' : List ℕ} {at k : ℕ} → Laid o out (n ++ d) at → k ≡ field_end out at cipher_tag cipher
      → out' ≡ field_out out at cipher_tag cipher → Laid o out' (n ++ d ++ c) k
  laid_cipher l e g = laid-field cipher_tag cipher l room-cipher (omega (arith, r.sized)) e g

  pub laid_seal : {out out' : List ℕ} {at k : ℕ} → Laid o out (n ++ d ++ c) at → k ≡ field_end out at seal_tag seal
      → out' ≡ field_out out at seal_tag seal → Laid o out' (n ++ d ++ c ++ s) k
  laid_seal l e g = laid-field seal_tag seal l room-seal (omega (arith, r.sized)) e g

-- values that fit, and room for them
pub ready : (own : Own) (digest cipher seal o : List ℕ) → fitting own digest cipher seal ≡ true → beside_cipher own.edition + length cipher ≤ length o
    → Ready own digest cipher seal o
ready own digest cipher seal o e h = record { sized = fitting-sized own digest cipher seal e; room = h }

-- what is laid whole is what the answers speak of
pub put_whole : {own : Own} {digest cipher seal o out : List ℕ} {k : ℕ} → Sized own digest cipher seal
    → Laid o out (field nonce_tag own.nonce ++ associated own.edition digest own.job ++ field cipher_tag cipher ++ field seal_tag seal) k
    → (Ok k ≡ put_answer own digest cipher seal o) × (out ≡ put_out own digest cipher seal o)
unfolding body
put_whole {own} {digest} {cipher} {seal} {o} z l =
    let told = put-done own digest cipher seal o z l.fits in (ap Ok l.end ∙ sym told.0, l.held ∙ sym told.1)

module _ (e : Edition) (digest job o : List ℕ) (d : length digest ≡ digest_length) (j : length job ≡ job_size e) where
  pub associated-whole : {out : List ℕ} {k : ℕ} → Laid o out (associated e digest job) k
      → (Ok k ≡ associated_answer e digest job o) × (out ≡ associated_out e digest job o)
  associated-whole l =
      let told = associated-done e digest job o d j l.fits in (ap Ok l.end ∙ sym told.0, l.held ∙ sym told.1)

  -- room for it from the start
  pub room-alone : associated_length e ≤ length o → Space [] (associated e digest job) o
  room-alone h = record { both = omega (arith, length-associated e digest job d j) }
