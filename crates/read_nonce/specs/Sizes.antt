-- A nonce is twelve bytes. Assumes nothing.
use Rattle.std.specs.Prelude.{◌≡◌, refl, List, ℕ, length, take, drop, Ok, Err, Result}
use Rattle.std.proofs.Common.{ap, subst, ◌∙◌, arith}
use Rattle.base_lists.specs.Below.{Below, below-take, below-drop, below-replicate}
use Rattle.frame_stuff_spec.specs.declared.UnstuffFault.{UnstuffFault}
use Rattle.frame_stuff_spec.specs.declared.UnstuffFault.TheVariants as unstuffed-is
use Rattle.frame_stuff_spec.specs.Stuffing.{unstuffed}
use Rattle.frame_stuff_spec.specs.Answers.{length_answer}
use Rattle.frame_stuff_spec.specs.Bytes.{unstuffed-below}
use Rattle.frame_body.specs.Fields.{nonce_length, Own, Fields, fields, no_body, fields_of}
use Rattle.frame_body.specs.Places.{nonce_at}
use Rattle.frame_body.proofs.Places.{nonce-at}
use Rattle.frame_body.proofs.OneToOne.{body-fields}
use Rattle.read_spec.specs.Judging.{held, held_by}
use Rattle.read_nonce.specs.declared.Nonce.{Nonce}
use Rattle.read_nonce.specs.Nonces.{no_nonce, of_fields, nonce_answer, nonce_of}

-- where a stretch holds fields, their nonce is its nonce
pub nonce-held : (s : List ℕ) {own : Own} {digest cipher seal : List ℕ} → held s ≡ fields own digest cipher seal
    → nonce_answer s ≡ record { found = 1; bytes = own.nonce }
unfolding nonce_answer
nonce-held s e = ap of_fields e

pub nonce-is : (s : List ℕ) {own : Own} {digest cipher seal : List ℕ} → held s ≡ fields own digest cipher seal → nonce_of s ≡ own.nonce
unfolding nonce_of
nonce-is s e = ap (λ (n : Nonce). n.bytes) (nonce-held s e)

-- twelve bytes
abbrev pub Twelve : List ℕ → Type 0
Twelve n = (length n ≡ nonce_length) × Below 256 n

pub nonce-twelve : (s : List ℕ) → Below 256 s → Twelve (nonce_of s)
unfolding nonce_of nonce_answer held
nonce-twelve s h = by_length (length_answer s)
  where
    zeros : Twelve no_nonce.bytes
    zeros = (refl, below-replicate 256 nonce_length 0 (omega arith))

    by-fields : (f : Fields) → fields_of (unstuffed s) ≡ f → Twelve (of_fields f).bytes
    by-fields no_body e = zeros
    by-fields (fields own digest cipher seal) e =
        let b = unstuffed s in
        let (is, z) = body-fields b (unstuffed-below s h) e in
        let n : take nonce_length (drop nonce_at b) ≡ own.nonce = ap (λ (x : List ℕ). take nonce_length (drop nonce_at x)) is ∙ nonce-at own digest cipher seal
        z in
        (z.nonce-is, subst (Below 256) n (below-take 256 nonce_length (drop nonce_at b) (below-drop 256 nonce_at b (unstuffed-below s h))))

    by_length : (u : Result ℕ UnstuffFault) → Twelve (of_fields (held_by u (fields_of (unstuffed s)))).bytes
    by_length (Err unstuffed-is.TooLong) = zeros
    by_length (Err unstuffed-is.NoRoom) = zeros
    by_length (Err unstuffed-is.Bad) = zeros
    by_length (Ok n) = by-fields (fields_of (unstuffed s)) refl
