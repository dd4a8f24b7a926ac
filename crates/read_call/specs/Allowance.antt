-- What an allowance does to a call of `read` (order W5): with enough allowed nothing, a larger one never alters an answer that was not 15, and no
-- count is over it. Assumes nothing.
use Rattle.std.specs.Prelude.{◌≡◌, Bool, true, false, not, cond, List, ℕ, ◌≤◌, ltb, length}
use Rattle.std.proofs.Math.Path.{refl}
use Rattle.std.proofs.Common.{sym, ap, ◌∙◌, arith}
use Rattle.base_lists.specs.Below.{Below}
use Rattle.read_stretch.specs.Stretches.{next_span, next_stretch}
use Rattle.line_spec.specs.Lines.{longest}
use Rattle.frame_spec.specs.Told.{Told}
use Rattle.read_spec.specs.Sizes.{Sizes}
use Rattle.read_spec.specs.Judged.{Judged, shape, stuffing, font, work, seal, unlisted, trade, layout, line, calls_in}
use Rattle.read_spec.specs.Judging.{judge}
use Rattle.read_readings.specs.Readings.{ends}
use Rattle.read_spec.specs.Ceiling.{within, all_work}
use Rattle.read_spec.proofs.Allowance as allowance
use Rattle.read_call.specs.declared.Asked.{Asked}
use Rattle.read_call.specs.declared.Answer.TheVariants as answer-is
use Rattle.read_call.specs.Answers.{longest_stream, sized_told, Found, call, stretch, judged_within, found, reading_of, answer_of, calls_of}

-- the count of a stretch's answer
calls-of : (j : Judged) → calls_of (answer_of j) ≡ calls_in j
calls-of shape = refl
calls-of stuffing = refl
calls-of font = refl
calls-of work = refl
calls-of (seal n) = refl
calls-of (unlisted n) = refl
calls-of (trade n) = refl
calls-of (layout n) = refl
calls-of (line own l n) = refl

module _ (t : Told) (s : List ℕ) (from room : ℕ) where
  -- what the next stretch is found to be without a ceiling, by a reader of these editions
  abbrev its : ℕ → Judged
  its ed = judge t ed (next_stretch s from)

  -- what a call finds, with these tests and this judgement
  abbrev with-tests : Bool → Bool → Bool → Bool → Bool → Judged → Found
  with-tests b c d e f j =
      cond b (call from answer-is.Sizes)
      (cond c (call from answer-is.TooLong)
      (cond d (call from answer-is.NoRoom)
      (cond e (call from answer-is.Beyond)
      (cond f (call (length s) answer-is.End) (stretch (next_span s from) j)))))

  abbrev by_tests : Judged → Found
  by_tests j =
      with-tests (not (sized_told t)) (ltb longest_stream (length s)) (ltb room longest) (ltb (length s) from) (ends (next_span s from)) j

  found-by : (a : Asked) → found t a s from room ≡ by_tests (within a.allowed (its a.editions))
  unfolding found judged_within
  found-by a = refl

  -- all the work allowed: the call finds what it finds without a ceiling, whatever more is allowed
  pub enough-allowed : Sizes t → Below 256 (next_stretch s from) → (a : Asked) → all_work ≤ a.allowed → found t a s from room ≡ by_tests (its a.editions)
  enough-allowed z bytes a h = found-by a ∙ ap by_tests (allowance.all-allowed t z a.editions (next_stretch s from) bytes a.allowed h)

  -- a larger allowance alters only a 15
  pub more-allowed : (a b : Asked) → a.editions ≡ b.editions → a.allowed ≤ b.allowed → ((reading_of (found t a s from room)).answer ≡ answer-is.Work → ⊥)
      → found t b s from room ≡ found t a s from room
  more-allowed a b same h n =
      found-by b
      ∙ ap (λ (ed : ℕ). by_tests (within b.allowed (its ed))) (sym same)
      ∙ go (not (sized_told t)) (ltb longest_stream (length s)) (ltb room longest) (ltb (length s) from) (ends (next_span s from))
      (λ e. n (ap (λ (x : Found). (reading_of x).answer) (found-by a) ∙ e))
      ∙ sym (found-by a)
    where
      go : (v w x y z : Bool) → ((reading_of (with-tests v w x y z (within a.allowed (its a.editions)))).answer ≡ answer-is.Work → ⊥)
          → with-tests v w x y z (within b.allowed (its a.editions)) ≡ with-tests v w x y z (within a.allowed (its a.editions))
      go true w x y z m = refl
      go false true x y z m = refl
      go false false true y z m = refl
      go false false false true z m = refl
      go false false false false true m = refl
      go false false false false false m =
          ap (stretch (next_span s from)) (allowance.more-allowed a.allowed b.allowed (its a.editions) h (λ e. m (ap answer_of e)))

  -- no count is over the allowance
  pub never-over : (a : Asked) → calls_of (reading_of (found t a s from room)).answer ≤ a.allowed
  never-over a =
      rw (found-by a) (go (not (sized_told t)) (ltb longest_stream (length s)) (ltb room longest) (ltb (length s) from) (ends (next_span s from)))
    where
      go : (v w x y z : Bool) → calls_of (reading_of (with-tests v w x y z (within a.allowed (its a.editions)))).answer ≤ a.allowed
      go true w x y z = omega arith
      go false true x y z = omega arith
      go false false true y z = omega arith
      go false false false true z = omega arith
      go false false false false true = omega arith
      go false false false false false = rw (calls-of (within a.allowed (its a.editions))) (allowance.never-over a.allowed (its a.editions))
