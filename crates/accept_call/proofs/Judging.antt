-- With all the work allowed, the number that `judge` gives is that of what the stretch is found to be; and the tests of the call in their order.
-- Assumes nothing.
use Rattle.std.specs.Prelude.{Err}
use mathlib.Core.Path.{◌≡◌, refl, ap, ◌∙◌}
use mathlib.Core.Bool.{true}
use mathlib.Core.List.{List, []}
use Prim.Native.Nat.{ℕ, ◌≤◌, ◌<◌}
use native.Mathlib.Omega.{arith}
use lib.ListN.{length}
use borrow.Author.Tests.{eq-eqb, ne_eqb, lt-ltb, le-ltb}
use Rattle.base_lists.specs.Below.{Below}
use Rattle.line_spec.specs.Lines.{longest}
use Rattle.line_layout.specs.declared.Layout.{Layout}
use Rattle.frame_body.specs.Fields.{digest_length}
use Rattle.frame_spec.specs.Told.{key_length, Told, told}
use Rattle.read_spec.specs.Judged.{Judged, shape, stuffing, font, work, seal, unlisted, trade, layout, line, number_in}
use Rattle.read_spec.specs.Judging.{judge}
use Rattle.read_spec.specs.Ceiling.{all_work}
use Rattle.read_spec.proofs.Allowance.{all-allowed}
use Rattle.read_spec.specs.Sizes.{Sizes}
use Rattle.read_call.specs.declared.Verdict.{Verdict}
use Rattle.read_call.specs.Answers.{longest_stream, sized_told, answer_of, verdict_of, judged_within, judge_answer}
use Rattle.read_call.specs.Answers as answers
use Rattle.accept_spec.specs.declared.AcceptFault.TheVariants as answer-is
use Rattle.accept_spec.specs.Accepting.{most_stretches, refused, stretches_in, read_all, accept_from, accept_answer}

answer-number : (j : Judged) → answers.answer_number (answer_of j) ≡ number_in j
answer-number shape = refl
answer-number stuffing = refl
answer-number font = refl
answer-number work = refl
answer-number (seal n) = refl
answer-number (unlisted n) = refl
answer-number (trade n) = refl
answer-number (layout n) = refl
answer-number (line own l n) = refl

pub sized-true : (t : Told) → length t.key ≡ key_length → length t.font ≡ digest_length → sized_told t ≡ true
unfolding sized_told
sized-true t k d = rw (eq-eqb (length t.key) key_length k) (eq-eqb (length t.font) digest_length d)

-- all work is allowed, so that a reader's own verdict is the whole of it
pub judged-number : (t : Told) (ed : ℕ) (s o : List ℕ) → Sizes t → Below 256 s → longest ≤ length o → (v : Verdict)
    → v ≡ judge_answer t (record { editions = ed; allowed = all_work; layout = t.layout }) s o → answers.answer_number v.answer ≡ number_in (judge t ed s)
unfolding judge_answer judged_within
judged-number t ed s o z bytes room v e =
    let is : v ≡ verdict_of (judge t ed s) =
    e ∙ rw (sized-true t z.key-is z.font-is, le-ltb (length o) longest room) (ap verdict_of (all-allowed t z ed s bytes all_work (omega arith))) in
    ap (λ (x : Verdict). answers.answer_number x.answer) is ∙ answer-number (judge t ed s)

module _ (key font : List ℕ) (lay : Layout) (ed : ℕ) (s : List ℕ) where
  abbrev t : Told
  t = told key font lay

  pub bad-key : (length key ≡ key_length → ⊥) → refused (Err answer-is.Sizes) ≡ accept_answer t ed s
  unfolding accept_answer sized_told
  bad-key k = rw (ne_eqb (length key) key_length k)

  module _ (k : length key ≡ key_length) where
    pub bad-font : (length font ≡ digest_length → ⊥) → refused (Err answer-is.Sizes) ≡ accept_answer t ed s
    unfolding accept_answer sized_told
    bad-font d = rw (eq-eqb (length key) key_length k, ne_eqb (length font) digest_length d)

    module _ (d : length font ≡ digest_length) where
      pub too_long : longest_stream < length s → refused (Err answer-is.TooLong) ≡ accept_answer t ed s
      unfolding accept_answer
      too_long h = rw (sized-true t k d, lt-ltb longest_stream (length s) h)

      module _ (h : length s ≤ longest_stream) where
        pub too_many : most_stretches < stretches_in s → refused (Err answer-is.TooMany) ≡ accept_answer t ed s
        unfolding accept_answer
        too_many m = rw (sized-true t k d, le-ltb longest_stream (length s) h, lt-ltb most_stretches (stretches_in s) m)

        pub all-judged : stretches_in s ≤ most_stretches → accept_from s [] (read_all t ed s) ≡ accept_answer t ed s
        unfolding accept_answer
        all-judged m = rw (sized-true t k d, le-ltb longest_stream (length s) h, le-ltb most_stretches (stretches_in s) m)
