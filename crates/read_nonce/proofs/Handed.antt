-- What each answer of `unstuff` says of the fields that a stretch holds, and what `judge_body` says of a body's nonce. Assumes nothing.
use Rattle.std.specs.Prelude.{Ok, Err, Some, None, Result}
use mathlib.Core.Path.{◌≡◌, refl, sym, ap, subst, ◌∙◌}
use mathlib.Core.List.{List}
use Prim.Native.Nat.{ℕ, ◌+◌, ◌-◌, ◌≤◌}
use native.Mathlib.Omega.{arith}
use lib.ListN.{length, take, drop, length-append, length-drop}
use lib.Seq.{take_at, length-take-le}
use Rattle.base_lists.specs.Below.{Below}
use Rattle.base_lists.specs.Buffers.{copied}
use Rattle.base_lists.specs.Over.{copied_all, over-whole}
use Rattle.frame_stuff_spec.specs.declared.UnstuffFault.{UnstuffFault}
use Rattle.frame_stuff_spec.specs.declared.UnstuffFault.TheVariants as unstuffed-is
use Rattle.frame_stuff_spec.specs.Stuffing.{longest_stretch, unstuffed}
use Rattle.frame_stuff_spec.specs.RoundTrip.{stuff-unstuff}
use Rattle.frame_stuff_spec.specs.Lengths.{stuffed-at-least}
use Rattle.frame_stuff_spec.specs.Answers.{unstuff_answer, unstuff_out}
use Rattle.frame_stuff_spec.specs.Outcomes.{Outcome, too_long, bad, no_room, done}
use Rattle.frame_stuff_spec.proofs.Outcomes.{unstuff-outcome, length-too-long, length-bad, length-good}
use Rattle.frame_body.specs.declared.Edition.{Edition}
use Rattle.frame_body.specs.Fields.{nonce_length, Fields, fields, no_body, fields_of}
use Rattle.frame_body.specs.Answers.{judged}
use Rattle.frame_body.proofs.Lengths.{length-body}
use Rattle.frame_body.specs.Places.{nonce_at}
use Rattle.frame_body.proofs.Places.{nonce-at}
use Rattle.frame_body.proofs.OneToOne.{body-fields}
use Rattle.read_spec.specs.Judging.{held}
use Rattle.read_nonce.specs.Nonces.{no_nonce, of_fields, nonce_answer}

module _ (s o : List ℕ) where
  outcome : (r : Result ℕ UnstuffFault) → unstuff_answer s o ≡ r → Outcome s o r (unstuff_out s o)
  outcome r e = subst (λ (x : Result ℕ UnstuffFault). Outcome s o x (unstuff_out s o)) e (unstuff-outcome s o)

  none-long : unstuff_answer s o ≡ Err unstuffed-is.TooLong → no_nonce ≡ nonce_answer s
  unfolding nonce_answer held
  none-long e = go (outcome (Err unstuffed-is.TooLong) e)
    where
      go : {w : List ℕ} → Outcome s o (Err unstuffed-is.TooLong) w → no_nonce ≡ nonce_answer s
      go (too_long h) = rw (length-too-long s h)

  none-bad : unstuff_answer s o ≡ Err unstuffed-is.Bad → no_nonce ≡ nonce_answer s
  unfolding nonce_answer held
  none-bad e = go (outcome (Err unstuffed-is.Bad) e)
    where
      go : {w : List ℕ} → Outcome s o (Err unstuffed-is.Bad) w → no_nonce ≡ nonce_answer s
      go (bad h n) = rw (length-bad s h n)

  -- no body is longer than its stretch
  not-small : longest_stretch ≤ length o → unstuff_answer s o ≡ Err unstuffed-is.NoRoom → ⊥
  not-small room e = go (outcome (Err unstuffed-is.NoRoom) e)
    where
      go : {w : List ℕ} → Outcome s o (Err unstuffed-is.NoRoom) w → ⊥
      go (no_room h w l) = omega (arith, stuffed-at-least (unstuffed s), ap length (stuff-unstuff w))

  -- so a stretch that is refused into a buffer with room holds none
  pub none-refused : longest_stretch ≤ length o → (f : UnstuffFault) → unstuff_answer s o ≡ Err f → no_nonce ≡ nonce_answer s
  none-refused room unstuffed-is.TooLong e = none-long e
  none-refused room unstuffed-is.Bad e = none-bad e
  none-refused room unstuffed-is.NoRoom e = absurd (not-small room e)

  record Body (n : ℕ) (w : List ℕ) : Type 0 where
    fits : n ≤ length w
    bytes : take n w ≡ unstuffed s
    holds : nonce_answer s ≡ of_fields (fields_of (unstuffed s))

  body_of : (n : ℕ) → unstuff_answer s o ≡ Ok n → Body n (unstuff_out s o)
  unfolding nonce_answer held
  body_of n e = go (outcome (Ok n) e)
    where
      go : {k : ℕ} {w : List ℕ} → Outcome s o (Ok k) w → Body k w
      go (done h w l) = record {
        fits = omega (arith, length-append (unstuffed s) (drop (length (unstuffed s)) o));
        bytes = take_at (unstuffed s) (drop (length (unstuffed s)) o) (length (unstuffed s)) refl;
        holds = rw (length-good s h w);
      }

  module _ (n : ℕ) (w : List ℕ) (e : unstuff_answer s o ≡ Ok n) (v : w ≡ unstuff_out s o) where
    pub body-fits : n ≤ length w
    body-fits = rw v (body_of n e).fits

    pub body-holds : of_fields (fields_of (take n w)) ≡ nonce_answer s
    body-holds =
        let b = body_of n e in
        rw v (ap (λ (x : List ℕ). of_fields (fields_of x)) b.bytes) ∙ sym b.holds

-- what `judge_body` tells of a body
pub body-none : (b : List ℕ) → judged (fields_of b) ≡ None → no_nonce ≡ of_fields (fields_of b)
body-none b = go (fields_of b)
  where
    go : (f : Fields) → judged f ≡ None → no_nonce ≡ of_fields f
    go no_body e = refl
    go (fields own digest cipher seal) e = absurd (let z : ◌≡◌ {A = ℕ} 0 1 = cc e in omega arith)

pub record Placed (b : List ℕ) : Type 0 where
  pub room : nonce_at + nonce_length ≤ length b
  pub nonce-is : of_fields (fields_of b) ≡ record { found = 1; bytes = take nonce_length (drop nonce_at b) }

pub body-placed : (b : List ℕ) → Below 256 b → (e : Edition) (n : ℕ) → judged (fields_of b) ≡ Some (e, n) → Placed b
body-placed b h e n = go (fields_of b) refl
  where
    go : (f : Fields) → fields_of b ≡ f → judged f ≡ Some (e, n) → Placed b
    go no_body i q = absurd (let z : ◌≡◌ {A = ℕ} 0 1 = cc q in omega arith)
    go (fields own digest cipher seal) i q =
        let (is, z) = body-fields b h i in
        let at : take nonce_length (drop nonce_at b) ≡ own.nonce = ap (λ (x : List ℕ). take nonce_length (drop nonce_at x)) is ∙ nonce-at own digest cipher seal
        z in
        record {
          room = omega (arith, ap length is, length-body z);
          nonce-is = ap of_fields i ∙ ap (λ (x : List ℕ). record { found = 1; bytes = x }) (sym at);
        }

-- a buffer of twelve bytes takes the nonce whole
pub part-copied : (b o : List ℕ) → nonce_at + nonce_length ≤ length b → length o ≡ nonce_length → (w : List ℕ)
    → w ≡ copied (take (nonce_at + nonce_length - nonce_at) (drop nonce_at b)) o → w ≡ take nonce_length (drop nonce_at b)
part-copied b o h l w e =
    let n = take nonce_length (drop nonce_at b) in
    let long : length n ≡ nonce_length = length-take-le nonce_length (drop nonce_at b) (omega (arith, length-drop nonce_at b)) in
    e ∙ copied_all n o (omega (arith, long)) ∙ over-whole n o (omega (arith, long))
