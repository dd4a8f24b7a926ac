-- What each answer of `unstuff` says of a stretch, unstuffed to a buffer as long as the longest stretch. Assumes nothing.
use Rattle.std.specs.Prelude.{Ok, Err, Result}
use mathlib.Core.Path.{◌≡◌, refl, sym, ap, subst, ◌∙◌}
use mathlib.Core.List.{List}
use Prim.Native.Nat.{ℕ, ◌-◌, ◌≤◌}
use native.Mathlib.Omega.{arith}
use lib.ListN.{length, take, drop, length-append}
use lib.Seq.{take_at}
use Rattle.frame_stuff_spec.specs.declared.UnstuffFault.{UnstuffFault}
use Rattle.frame_stuff_spec.specs.declared.UnstuffFault.TheVariants as unstuffed-is
use Rattle.frame_stuff_spec.specs.Stuffing.{longest_stretch, unstuffed}
use Rattle.frame_stuff_spec.specs.Lengths.{stuffed-at-least}
use Rattle.frame_stuff_spec.specs.RoundTrip.{stuff-unstuff}
use Rattle.frame_stuff_spec.specs.Answers.{unstuff_answer, unstuff_out}
use Rattle.frame_stuff_spec.specs.Outcomes.{Outcome, too_long, bad, no_room, done}
use Rattle.frame_stuff_spec.proofs.Outcomes.{unstuff-outcome}
use Rattle.frame_body.specs.Fields.{fields_of}
use Rattle.frame_spec.specs.Told.{Told}
use Rattle.read_spec.specs.Editions.{among}
use Rattle.read_spec.specs.Ceiling as ceiling
use Rattle.read_spec.specs.Judged.{shape, stuffing}
use Rattle.read_spec.proofs.Allowance.{no-ceiling}
use Rattle.read_call.specs.declared.Answer.{Answer}
use Rattle.read_call.specs.declared.Verdict.{Verdict}
use Rattle.read_call.specs.Answers.{plain, stuffing_answer}
use Rattle.read_call.proofs.Shown.{Shows, shown}
use Rattle.read_spec.specs.Judging.{judge_fields, judge}
use Rattle.read_spec.proofs.Cases.{judge-too-long, judge-bad, judge-fields}

module _ (s o : List ℕ) where
  outcome : (r : Result ℕ UnstuffFault) → unstuff_answer s o ≡ r → Outcome s o r (unstuff_out s o)
  outcome r e = subst (λ (x : Result ℕ UnstuffFault). Outcome s o x (unstuff_out s o)) e (unstuff-outcome s o)

  -- no body is longer than its stretch
  pub told-small : longest_stretch ≤ length o → unstuff_answer s o ≡ Err unstuffed-is.NoRoom → ⊥
  told-small room e = go (outcome (Err unstuffed-is.NoRoom) e)
    where
      go : {w : List ℕ} → Outcome s o (Err unstuffed-is.NoRoom) w → ⊥
      go (no_room h w l) = omega (arith, stuffed-at-least (unstuffed s), ap length (stuff-unstuff w))

module _ (t : Told) (ed : ℕ) (s o : List ℕ) where
  told-long : unstuff_answer s o ≡ Err unstuffed-is.TooLong → judge t ed s ≡ shape
  told-long e = go (outcome s o (Err unstuffed-is.TooLong) e)
    where
      go : {w : List ℕ} → Outcome s o (Err unstuffed-is.TooLong) w → judge t ed s ≡ shape
      go (too_long h) = judge-too-long t ed s h

  told-bad : unstuff_answer s o ≡ Err unstuffed-is.Bad → judge t ed s ≡ stuffing
  told-bad e = go (outcome s o (Err unstuffed-is.Bad) e)
    where
      go : {w : List ℕ} → Outcome s o (Err unstuffed-is.Bad) w → judge t ed s ≡ stuffing
      go (bad h n) = judge-bad t ed s h n

  -- and where it is refused into a buffer with room, what is answered
  pub refused-shown : longest_stretch ≤ length o → (fault : UnstuffFault) → unstuff_answer s o ≡ Err fault
      → (answer : Answer) → answer ≡ stuffing_answer fault → (r : Verdict) → r ≡ plain answer
      → (a : ℕ) (l : List ℕ) → Shows (ceiling.within a (judge t ed s)) l r l
  refused-shown room unstuffed-is.TooLong e answer q r v a l = shown _ l shape (no-ceiling a shape (told-long e) refl) r (v ∙ ap plain q)
  refused-shown room unstuffed-is.Bad e answer q r v a l = shown _ l stuffing (no-ceiling a stuffing (told-bad e) refl) r (v ∙ ap plain q)
  refused-shown room unstuffed-is.NoRoom e answer q r v a l = absurd (told-small s o room e)

  -- a length: the body stands at the buffer's start, and its fields decide
  record Body (n : ℕ) (w : List ℕ) : Type 0 where
    fits : n ≤ length w
    bytes : take n w ≡ unstuffed s
    judged : judge t ed s ≡ judge_fields t (among ed (fields_of (unstuffed s)))

  told-length : (n : ℕ) → unstuff_answer s o ≡ Ok n → Body n (unstuff_out s o)
  told-length n e = go (outcome s o (Ok n) e)
    where
      go : {k : ℕ} {w : List ℕ} → Outcome s o (Ok k) w → Body k w
      go (done h w l) = record {
        fits = omega (arith, length-append (unstuffed s) (drop (length (unstuffed s)) o));
        bytes = take_at (unstuffed s) (drop (length (unstuffed s)) o) (length (unstuffed s)) refl;
        judged = judge-fields t ed s (record { short = h; well = w });
      }

  module _ (n : ℕ) (w : List ℕ) (e : unstuff_answer s o ≡ Ok n) (v : w ≡ unstuff_out s o) where
    pub told-fits : n ≤ length w
    told-fits = rw v (told-length n e).fits

    pub told-body : judge t ed s ≡ judge_fields t (among ed (fields_of (take (n - 0) (drop 0 w))))
    told-body =
        let b = told-length n e in
        let z : n - 0 ≡ n = omega arith in
        b.judged ∙ rw (z, v) (ap (λ (l : List ℕ). judge_fields t (among ed (fields_of l))) (sym b.bytes))
