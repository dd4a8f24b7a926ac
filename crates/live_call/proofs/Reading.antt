-- Reading a stretch that stands at a window's start: its nonce where it is a line, 7 where it is over-long. Assumes nothing.
use mathlib.Core.Path.{◌≡◌, refl, sym, ap, ◌∙◌}
use mathlib.Core.Bool.{true, cond}
use mathlib.Core.List.{List}
use Prim.Native.Nat.{ℕ, ◌-◌, ◌≤◌, ◌<◌}
use native.Mathlib.Omega.{arith}
use lib.Dec.{eqb}
use lib.ListN.{length, take, drop}
use borrow.Author.Tests.{eq-eqb, ne_eqb, lt-ltb, le-ltb}
use Rattle.frame_stuff_spec.specs.Stuffing.{longest_stretch}
use Rattle.line_spec.specs.Lines.{longest}
use Rattle.frame_body.specs.Fields.{digest_length}
use Rattle.frame_spec.specs.Told.{key_length, Told}
use Rattle.read_stretch.specs.Stretches.{span}
use Rattle.read_spec.specs.Judged.{number_in, Judged, shape, stuffing, font, work, seal, unlisted, trade, layout, line}
use Rattle.read_spec.specs.Judging.{judge}
use Rattle.read_spec.proofs.Allowance.{not-work}
use Rattle.read_spec.specs.Sizes.{Sizes}
use Rattle.read_nonce.specs.declared.Nonce.{Nonce}
use Rattle.read_nonce.specs.Nonces.{nonce_answer, nonce_of}
use Rattle.read_nonce.specs.Lines.{line-nonce}
use Rattle.read_call.specs.declared.Answer as read_answer
use Rattle.read_call.specs.declared.Asked.{Asked}
use Rattle.read_call.specs.declared.Verdict.{Verdict}
use Rattle.read_call.specs.Answers.{LINE, outcome_of, sized_told, judged_within, answer_of, line_over, verdict_of, judge_answer, judge_out}
use Rattle.read_numbers.specs.declared.Report.{Report}
use Rattle.read_numbers.specs.Reports.{report_of}
use Rattle.live_spec.specs.Steps.{judged_in, no_nonce, nonce_in}
use Rattle.live_call.specs.Parts.{read_of}

-- the nonce that is given for an answer, with the bytes of the stretch
abbrev pub nonce_for : read_answer.Answer → List ℕ → List ℕ
nonce_for a s = cond (eqb (outcome_of a) LINE) (nonce_of s) no_nonce

module _ (a : read_answer.Answer) (s : List ℕ) (r : Report) (e : r ≡ report_of a) where
  pub of-line : r.outcome ≡ LINE → (k : Nonce) → k ≡ nonce_answer s → k.bytes ≡ nonce_for a s
  unfolding nonce_of
  of-line h k q =
      let o : outcome_of a ≡ LINE = ap (λ (x : Report). x.outcome) (sym e) ∙ h in
      rw (eq-eqb (outcome_of a) LINE o) (ap (λ (x : Nonce). x.bytes) q)

  pub of_other : (r.outcome ≡ LINE → ⊥) → no_nonce ≡ nonce_for a s
  of_other h = rw (ne_eqb (outcome_of a) LINE (λ o. h (ap (λ (x : Report). x.outcome) e ∙ o)))

module _ (t : Told) (a : Asked) (s : List ℕ) where
  -- it is that of the line
  judged-nonce : nonce_for (answer_of (judged_within t a s)) s ≡ nonce_in (judged_within t a s)
  unfolding nonce_of judged_within
  judged-nonce = go (judged_within t a s) refl
    where
      go : (j : Judged) → judged_within t a s ≡ j → nonce_for (answer_of j) s ≡ nonce_in j
      go shape e = refl
      go stuffing e = refl
      go font e = refl
      go work e = refl
      go (seal n) e = refl
      go (unlisted n) e = refl
      go (trade n) e = refl
      go (layout n) e = refl
      go (line own l n) e =
          ap (λ (x : Nonce). x.bytes)
          (line-nonce t a.editions s own l n
          (not-work a.allowed (judge t a.editions s) (line own l n) e (λ q. omega (arith, ap number_in q))))

  sized : Sizes t → sized_told t ≡ true
  unfolding sized_told
  sized z = rw (eq-eqb (length t.key) key_length z.key-is) (eq-eqb (length t.font) digest_length z.font-is)

  module _ (o : List ℕ) (z : Sizes t) (room : longest ≤ length o) where
    verdict-is : judge_answer t a s o ≡ verdict_of (judged_within t a s)
    unfolding judge_answer
    verdict-is = rw (sized z, le-ltb (length o) longest room)

    line-is : judge_out t a s o ≡ line_over (judged_within t a s) o
    unfolding judge_out
    line-is = rw (sized z, le-ltb (length o) longest room)

    -- what is read of a stretch whose every byte was kept
    pub read_is : (v : Verdict) → v ≡ judge_answer t a s o → (x : List ℕ) → x ≡ nonce_for v.answer s → (l : List ℕ) → l ≡ judge_out t a s o
        → (record { answer = v.answer; edition = v.edition; job = v.job; nonce = x } ≡ read_of (judged_within t a s)) × (l ≡ line_over (judged_within t a s) o)
    read_is v e x f l g =
        let j = judged_within t a s in
        let is : v ≡ verdict_of j = e ∙ verdict-is in
        let its : x ≡ nonce_in j = f ∙ ap (λ (u : Verdict). nonce_for u.answer s) is ∙ judged-nonce in
        (rw (is, its) refl, g ∙ line-is)

-- at these places
module _ (t : Told) (a : Asked) (w : List ℕ) (first closing : ℕ) where
  pub over-long-is : longest_stretch < closing - first → judged_in t a w (span first closing) ≡ shape
  unfolding judged_in
  over-long-is h = rw (lt-ltb longest_stretch (closing - first) h)

  pub kept-is : closing - first ≤ longest_stretch → judged_in t a w (span first closing) ≡ judged_within t a (take (closing - first - 0) (drop 0 w))
  unfolding judged_in
  kept-is h =
      let z : closing - first - 0 ≡ closing - first = omega arith in
      rw (le-ltb longest_stretch (closing - first) h, z)
