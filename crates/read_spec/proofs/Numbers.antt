-- The number of a stretch is that of the call that decides it: the numbers of stuffing, of fields and of a line are the reader's.
-- Assumes nothing.
use Rattle.std.specs.Prelude.{◌≡◌, List, ℕ, Ok, Err, Result, ⊤}
use Rattle.std.proofs.Math.Path.{refl, ap}
use Rattle.std.proofs.Common.{◌∙◌}
use Rattle.base_lists.specs.Sameness.{same_refl}
use Rattle.frame_stuff_spec.specs.Stuffing.{unstuffed}
use Rattle.frame_stuff_spec.specs.Answers.{length_answer, unstuff_number}
use Rattle.frame_stuff_spec.proofs.Outcomes.{length-too-long, length-bad, length-good}
use Rattle.line_layout.specs.declared.LineFault.{LineFault}
use Rattle.line_layout.specs.declared.LineFault.TheVariants.{Unlisted, Trade, Layout}
use Rattle.line_layout.specs.Layouts as lines
use Rattle.line_layout.specs.Layouts.{layout_rule}
use Rattle.ingage_spec.specs.Cipher.{Work}
use Rattle.frame_body.specs.Fields.{Own, Fields, fields, no_body, fields_of}
use Rattle.frame_body.specs.Answers.{judged, judge_number}
use Rattle.frame_spec.specs.Told.{Told}
use Rattle.read_spec.specs.Editions.{among}
use Rattle.read_spec.specs.Judged.{Judged, number_in}
use Rattle.read_spec.specs.Judging.{by_rule, judge_sealed, judge_fields, judge}
use Rattle.read_spec.specs.Cases.{Stuffed, Holds, Case, opening, too_long}
use Rattle.read_spec.proofs.Cases.{judge-case, judge-fields, judge-holds}
use Rattle.read_spec.specs.Cases.{bad-stuffing, no_fields, other-font, other-seal, not_listed, not-trade, not-laid, given}

module _ (t : Told) (ed : ℕ) (s : List ℕ) where
  -- a stretch that is too long or badly stuffed: 7, 6
  pub stuffing-number : (unstuff_number (length_answer s) ≡ 0 → ⊥) → number_in (judge t ed s) ≡ unstuff_number (length_answer s)
  stuffing-number n = by-case (judge t ed s) (judge-case t ed s)
    where
      good : {X : Type 0} → Stuffed s → X
      good g = absurd (n (rw (length-good s g.short g.well)))

      by-case : (j : Judged) → Case t ed s j → number_in j ≡ unstuff_number (length_answer s)
      by-case _ (too_long h) = rw (length-too-long s h)
      by-case _ (bad-stuffing h m) = rw (length-bad s h m)
      by-case _ (no_fields g e) = good g
      by-case _ (other-font own digest cipher T h m) = good h.0
      by-case _ (other-seal own cipher T h m) = good h.0
      by-case _ (not_listed own cipher h e) = good h.0
      by-case _ (not-trade own cipher h e) = good h.0
      by-case _ (not-laid own cipher h e) = good h.0
      by-case _ (given own cipher h e) = good h.0

  -- a stretch that holds no body: 7
  pub fields-number : Stuffed s → (judge_number (judged (among ed (fields_of (unstuffed s)))) ≡ 0 → ⊥)
      → number_in (judge t ed s) ≡ judge_number (judged (among ed (fields_of (unstuffed s))))
  fields-number g n = ap number_in (judge-fields t ed s g) ∙ by-fields (among ed (fields_of (unstuffed s))) n
    where
      by-fields : (f : Fields) → (judge_number (judged f) ≡ 0 → ⊥) → number_in (judge_fields t f) ≡ judge_number (judged f)
      by-fields no_body m = refl
      by-fields (fields own digest cipher T) m = absurd (m refl)

  -- a stretch whose font and seal are right: 9, 13, 17, or a line
  pub line-number : (own : Own) (cipher : List ℕ) → Holds ed s own t.font cipher (opening t own t.font cipher).seal
      → number_in (judge t ed s) ≡ lines.line_number (layout_rule t.layout (opening t own t.font cipher).text)
  unfolding judge_sealed
  line-number own cipher h =
      let w = opening t own t.font cipher in
      ap number_in (judge-holds t ed s h) ∙ rw (same_refl t.font, same_refl w.seal) (by-rule (layout_rule t.layout w.text) own w)
    where
      by-rule : (r : Result ⊤ LineFault) (own : Own) (w : Work) → number_in (by_rule r own w) ≡ lines.line_number r
      by-rule (Ok tt) own w = refl
      by-rule (Err Unlisted) own w = refl
      by-rule (Err Trade) own w = refl
      by-rule (Err Layout) own w = refl
