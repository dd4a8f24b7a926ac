-- A stretch that is handed in: what each answer of `unstuff` says of the fields that it holds, and one law for each return of `judge`.
-- Assumes nothing.
use Rattle.std.specs.Prelude.{Ok, Err, Result}
use mathlib.Core.Path.{◌≡◌, refl, sym, ap, subst, ◌∙◌}
use mathlib.Core.Bool.{true}
use mathlib.Core.List.{List}
use Prim.Native.Nat.{ℕ, ◌-◌, ◌≤◌, ◌<◌}
use native.Mathlib.Omega.{arith}
use lib.ListN.{length, take, drop, length-append}
use lib.Seq.{take_at}
use borrow.Author.Tests.{eq-eqb, ne_eqb, lt-ltb, le-ltb}
use Rattle.frame_stuff_spec.specs.declared.UnstuffFault.{UnstuffFault}
use Rattle.frame_stuff_spec.specs.declared.UnstuffFault.TheVariants as unstuffed-is
use Rattle.frame_stuff_spec.specs.Stuffing.{longest_stretch, unstuffed}
use Rattle.frame_stuff_spec.specs.Answers.{unstuff_answer, unstuff_out}
use Rattle.frame_stuff_spec.specs.Outcomes.{Outcome, too_long, bad, done}
use Rattle.frame_stuff_spec.proofs.Outcomes.{unstuff-outcome, length-too-long, length-bad, length-good}
use Rattle.line_spec.specs.Lines.{longest}
use Rattle.frame_body.specs.Fields.{digest_length, no_body, fields_of}
use Rattle.frame_spec.specs.Told.{key_length, Told, told}
use Rattle.read_spec.specs.Judging.{held}
use Rattle.read_call.proofs.Unstuffing.{told-small}
use Rattle.read_call.specs.declared.Asked.{Asked}
use Rattle.read_call.specs.declared.Verdict.{Verdict}
use Rattle.read_call.specs.declared.Answer.TheVariants as answer-is
use Rattle.read_call.specs.Answers.{sized_told, plain, verdict_of, line_over, judged_within, judge_answer, judge_out}

module _ (s o : List ℕ) where
  outcome : (r : Result ℕ UnstuffFault) → unstuff_answer s o ≡ r → Outcome s o r (unstuff_out s o)
  outcome r e = subst (λ (x : Result ℕ UnstuffFault). Outcome s o x (unstuff_out s o)) e (unstuff-outcome s o)

  held-long : unstuff_answer s o ≡ Err unstuffed-is.TooLong → held s ≡ no_body
  unfolding held
  held-long e = go (outcome (Err unstuffed-is.TooLong) e)
    where
      go : {w : List ℕ} → Outcome s o (Err unstuffed-is.TooLong) w → held s ≡ no_body
      go (too_long h) = rw (length-too-long s h)

  held-bad : unstuff_answer s o ≡ Err unstuffed-is.Bad → held s ≡ no_body
  unfolding held
  held-bad e = go (outcome (Err unstuffed-is.Bad) e)
    where
      go : {w : List ℕ} → Outcome s o (Err unstuffed-is.Bad) w → held s ≡ no_body
      go (bad h n) = rw (length-bad s h n)

  -- so a stretch that is refused into a buffer with room holds no fields
  pub held-none : longest_stretch ≤ length o → (f : UnstuffFault) → unstuff_answer s o ≡ Err f → held s ≡ no_body
  held-none room unstuffed-is.TooLong e = held-long e
  held-none room unstuffed-is.Bad e = held-bad e
  held-none room unstuffed-is.NoRoom e = absurd (told-small s o room e)

  record Body (n : ℕ) (w : List ℕ) : Type 0 where
    fits : n ≤ length w
    bytes : take n w ≡ unstuffed s
    holds : held s ≡ fields_of (unstuffed s)

  body_of : (n : ℕ) → unstuff_answer s o ≡ Ok n → Body n (unstuff_out s o)
  unfolding held
  body_of n e = go (outcome (Ok n) e)
    where
      go : {k : ℕ} {w : List ℕ} → Outcome s o (Ok k) w → Body k w
      go (done h w l) = record {
        fits = omega (arith, length-append (unstuffed s) (drop (length (unstuffed s)) o));
        bytes = take_at (unstuffed s) (drop (length (unstuffed s)) o) (length (unstuffed s)) refl;
        holds = rw (length-good s h w);
      }

  module _ (n : ℕ) (w : List ℕ) (e : unstuff_answer s o ≡ Ok n) (v : w ≡ unstuff_out s o) where
    pub held_fits : n ≤ length w
    held_fits = rw v (body_of n e).fits

    pub held-body : held s ≡ fields_of (take (n - 0) (drop 0 w))
    held-body =
        let b = body_of n e in
        let z : n - 0 ≡ n = omega arith in
        b.holds ∙ rw (z, v) (ap fields_of (sym b.bytes))

module _ (key font : List ℕ) (a : Asked) (s o : List ℕ) where
  abbrev t : Told
  t = told key font a.layout

  -- what a return of `judge` has to show
  abbrev Met : Verdict → List ℕ → Type 0
  Met r w = (r ≡ judge_answer t a s o) × (w ≡ judge_out t a s o)

  pub bad-key : (length key ≡ key_length → ⊥) → (r : Verdict) → r ≡ plain answer-is.Sizes → Met r o
  unfolding judge_answer judge_out sized_told
  bad-key k r q = (rw (ne_eqb (length key) key_length k) q, rw (ne_eqb (length key) key_length k))

  module _ (k : length key ≡ key_length) where
    pub bad-font : (length font ≡ digest_length → ⊥) → (r : Verdict) → r ≡ plain answer-is.Sizes → Met r o
    unfolding judge_answer judge_out sized_told
    bad-font d r q =
        (rw (eq-eqb (length key) key_length k, ne_eqb (length font) digest_length d) q, rw (eq-eqb (length key) key_length k, ne_eqb (length font) digest_length d))

    module _ (d : length font ≡ digest_length) where
      sized : sized_told t ≡ true
      unfolding sized_told
      sized = rw (eq-eqb (length key) key_length k) (eq-eqb (length font) digest_length d)

      pub small : length o < longest → (r : Verdict) → r ≡ plain answer-is.NoRoom → Met r o
      unfolding judge_answer judge_out
      small h r q = (rw (sized, lt-ltb (length o) longest h) q, rw (sized, lt-ltb (length o) longest h))

      pub handed : longest ≤ length o → (r : Verdict) (w : List ℕ) → r ≡ verdict_of (judged_within t a s) → w ≡ line_over (judged_within t a s) o → Met r w
      unfolding judge_answer judge_out
      handed h r w q x = (rw (sized, le-ltb (length o) longest h) q, rw (sized, le-ltb (length o) longest h) x)
