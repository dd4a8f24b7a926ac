-- `layout-narrows` of the reader (order W7): with a layout named a call's reading and the line buffer are those with none, or those gave a line and
-- now it is 17 at the same places with the same count, and the buffer is as it was. Assumes nothing.
use Rattle.std.specs.Prelude.{◌≡◌, refl, Bool, not, cond, List, ℕ, ltb, length}
use Rattle.std.proofs.Common.{ap}
use Rattle.std.proofs.Math.Bool.{true, false}
use Rattle.read_stretch.specs.declared.Span.{Span}
use Rattle.read_stretch.specs.Stretches.{next_span, next_stretch}
use Rattle.line_spec.specs.Lines.{longest}
use Rattle.line_layout.specs.declared.Layout.TheVariants.{Neither}
use Rattle.frame_body.specs.Fields.{Own}
use Rattle.frame_spec.specs.Told.{Told}
use Rattle.frame_spec.specs.AnyLayout.{under}
use Rattle.read_spec.specs.Judged.{Label, label_of, Judged, layout, line}
use Rattle.read_readings.specs.Readings.{ends}
use Rattle.read_spec.specs.Narrowing.{Narrower, alike, narrowed}
use Rattle.read_spec.proofs.Narrowing.{judge-narrows, within-narrows}
use Rattle.read_call.specs.declared.Asked.{Asked}
use Rattle.read_call.specs.declared.Answer.TheVariants as answer-is
use Rattle.read_call.specs.Answers.{longest_stream, sized_told, Found, call, stretch, judged_within, found}
use Rattle.read_call.specs.Answers.{plain, reading_at, reading_of, buffer, read_answer, read_out}

-- what a call finds with a layout named, beside what it finds with none
data Beside : Found → Found → Type 0 where
  equal : (f : Found) → Beside f f
  less : (p : Span) (own : Own) (l : List ℕ) (n : ℕ) → Beside (stretch p (layout n)) (stretch p (line own l n))

module _ (t : Told) (a : Asked) (s : List ℕ) (from room : ℕ) where
  -- what a call finds, by its tests, where the next stretch is found to be j
  tests : Bool → Bool → Bool → Bool → Bool → Judged → Found
  tests b c d e f j =
      cond b (call from answer-is.Sizes)
      (cond c (call from answer-is.TooLong)
      (cond d (call from answer-is.NoRoom)
      (cond e (call from answer-is.Beyond)
      (cond f (call (length s) answer-is.End) (stretch (next_span s from) j)))))

  by_tests : (j k : Judged) → Narrower j k → (b c d e f : Bool) → Beside (tests b c d e f j) (tests b c d e f k)
  unfolding tests
  by_tests j k h true c d e f = equal (call from answer-is.Sizes)
  by_tests j k h false true d e f = equal (call from answer-is.TooLong)
  by_tests j k h false false true e f = equal (call from answer-is.NoRoom)
  by_tests j k h false false false true f = equal (call from answer-is.Beyond)
  by_tests j k h false false false false true = equal (call (length s) answer-is.End)
  by_tests _ _ (alike j) false false false false false = equal (stretch (next_span s from) j)
  by_tests _ _ (narrowed own l n) false false false false false = less (next_span s from) own l n

  found-beside : Beside (found t a s from room) (found (under Neither t) a s from room)
  unfolding found judged_within sized_told tests
  found-beside =
      by_tests _ _ (within-narrows a.allowed _ _ (judge-narrows t a.editions (next_stretch s from)))
      (not (sized_told t)) (ltb longest_stream (length s)) (ltb room longest) (ltb (length s) from) (ends (next_span s from))

pub data Narrowed (t : Told) (a : Asked) (s : List ℕ) (from : ℕ) (o : List ℕ) : Type 0 where
  as-without : read_answer t a s from o ≡ read_answer (under Neither t) a s from o → read_out t a s from o ≡ read_out (under Neither t) a s from o
      → Narrowed t a s from o
  not-laid : (p : Span) (k : Label) (n calls : ℕ)
      → read_answer (under Neither t) a s from o ≡ reading_at p (record { answer = answer-is.Line n calls; edition = k.edition; job = k.job })
      → read_answer t a s from o ≡ reading_at p (plain (answer-is.Layout calls)) → read_out t a s from o ≡ o → Narrowed t a s from o

pub layout-narrows : (t : Told) (a : Asked) (s : List ℕ) (from : ℕ) (o : List ℕ) → Narrowed t a s from o
layout-narrows t a s from o = go _ _ refl refl (found-beside t a s from (length o))
  where
    go : (f g : Found) → found t a s from (length o) ≡ f → found (under Neither t) a s from (length o) ≡ g → Beside f g → Narrowed t a s from o
    go _ _ x y (equal f) = as-without (rw (x, y)) (rw (x, y))
    go _ _ x y (less p own l n) =
        not-laid p (label_of own) (length l) n (ap reading_of y) (ap reading_of x) (ap (λ (f : Found). buffer f o) x)
