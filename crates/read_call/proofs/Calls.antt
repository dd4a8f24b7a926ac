-- One law for each return of `read`: what is known there gives the answer and the buffer that the promise names. Assumes nothing.
use mathlib.Core.Path.{◌≡◌, sym, ap, ◌∙◌}
use mathlib.Core.Bool.{true}
use mathlib.Core.List.{List}
use Prim.Native.Nat.{ℕ, ◌≤◌, ◌<◌}
use lib.ListN.{length}
use borrow.Author.Tests.{eq-eqb, ne_eqb, lt-ltb, le-ltb}
use Rattle.read_stretch.specs.declared.Span.{Span}
use Rattle.read_stretch.specs.Stretches.{span, bytes_at, next_span, next_stretch}
use Rattle.read_stretch.specs.Places.{Within}
use Rattle.read_stretch.proofs.Places.{next-within, next-equal}
use Rattle.line_spec.specs.Lines.{longest}
use Rattle.frame_spec.specs.Told.{key_length, Told, told}
use Rattle.frame_body.specs.Fields.{digest_length}
use Rattle.read_call.specs.declared.Asked.{Asked}
use Rattle.read_call.specs.declared.Answer.{Answer}
use Rattle.read_call.specs.declared.Reading.{Reading}
use Rattle.read_call.specs.declared.Verdict.{Verdict}
use Rattle.read_call.specs.declared.Answer.TheVariants as answer-is
use Rattle.read_call.specs.Answers.{longest_stream, sized_told, Found, call, stretch, found, reading_at, reading_of}
use Rattle.read_call.specs.Answers.{buffer, plain, verdict_of, judged_within, line_over, read_answer, read_out}

-- the places that `next_span` gives
pub within : (s : List ℕ) (from : ℕ) (p : Span) → p ≡ next_span s from → Within (length s) p
within s from p e = rw e (next-within s from)

module _ (key font : List ℕ) (b : Asked) (s : List ℕ) (from : ℕ) (o : List ℕ) where
  abbrev t : Told
  t = told key font b.layout

  -- what a return has to show
  abbrev pub Met : Reading → List ℕ → Type 0
  Met r w = (r ≡ read_answer t b s from o) × (w ≡ read_out t b s from o)

  met : (f : Found) → found t b s from (length o) ≡ f → (r : Reading) → r ≡ reading_of f → Met r (buffer f o)
  met f e r q = (q ∙ ap reading_of (sym e), ap (λ (x : Found). buffer x o) (sym e))

  -- where the call is refused, and at the stream's end
  abbrev Answered : ℕ → Answer → Type 0
  Answered at a = (r : Reading) → r ≡ reading_at (span at at) (plain a) → Met r o

  pub bad-key : (length key ≡ key_length → ⊥) → Answered from answer-is.Sizes
  unfolding found sized_told
  bad-key k = met (call from answer-is.Sizes) (rw (ne_eqb (length key) key_length k))

  pub bad-font : length key ≡ key_length → (length font ≡ digest_length → ⊥) → Answered from answer-is.Sizes
  unfolding found sized_told
  bad-font k d =
      met (call from answer-is.Sizes) (rw (eq-eqb (length key) key_length k, ne_eqb (length font) digest_length d))

  module _ (k : length key ≡ key_length) (d : length font ≡ digest_length) where
    sized : sized_told t ≡ true
    unfolding sized_told
    sized = rw (eq-eqb (length key) key_length k) (eq-eqb (length font) digest_length d)

    pub too_long : longest_stream < length s → Answered from answer-is.TooLong
    unfolding found
    too_long h = met (call from answer-is.TooLong) (rw (sized, lt-ltb longest_stream (length s) h))

    module _ (h : length s ≤ longest_stream) where
      pub no_room : length o < longest → Answered from answer-is.NoRoom
      unfolding found
      no_room r = met (call from answer-is.NoRoom) (rw (sized, le-ltb longest_stream (length s) h, lt-ltb (length o) longest r))

      module _ (r : longest ≤ length o) where
        pub beyond : length s < from → Answered from answer-is.Beyond
        unfolding found
        beyond f =
            met (call from answer-is.Beyond)
            (rw (sized, le-ltb longest_stream (length s) h, le-ltb (length o) longest r, lt-ltb (length s) from f))

        module _ (f : from ≤ length s) (p : Span) (e : p ≡ next_span s from) where
          pub at-end : p.first ≡ p.closing → Answered p.closing answer-is.End
          unfolding found
          at-end q a x =
              let is : (next_span s from).first ≡ (next_span s from).closing = rw e at q in
              let last : p.closing ≡ length s = ap (λ (y : Span). y.closing) (e ∙ (next-equal s from is).0) in
              met (call (length s) answer-is.End)
              (rw (
                sized,
                le-ltb longest_stream (length s) h,
                le-ltb (length o) longest r,
                le-ltb (length s) from f,
                ← e,
                eq-eqb p.first p.closing q,
              ))
              a (x ∙ ap (λ (n : ℕ). reading_at (span n n) (plain answer-is.End)) last)

          -- the stretch that stands there, judged
          pub at-stretch : (p.first ≡ p.closing → ⊥) → (a : Verdict) (w : List ℕ) → a ≡ verdict_of (judged_within t b (bytes_at s p))
              → w ≡ line_over (judged_within t b (bytes_at s p)) o → Met (reading_at p a) w
          unfolding found next_stretch
          at-stretch q a w x y =
              let m = met (stretch p (judged_within t b (bytes_at s p))) (rw (
                sized,
                le-ltb longest_stream (length s) h,
                le-ltb (length o) longest r,
                le-ltb (length s) from f,
                ← e,
                ne_eqb p.first p.closing q,
              )) (reading_at p a) (ap (reading_at p) x) in
              (m.0, y ∙ m.1)
