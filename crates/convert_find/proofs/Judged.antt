-- What a reader of the edition named alone answers is what is found of a stretch that is not misnamed, on plain lists. Assumes nothing.
use Rattle.std.specs.Prelude.{Result}
use mathlib.Core.Path.{◌≡◌, ap, ◌∙◌}
use mathlib.Core.Bool.{false}
use mathlib.Core.List.{List}
use Prim.Native.Nat.{ℕ}
use Rattle.frame_body.specs.declared.Edition.{Edition}
use Rattle.frame_spec.specs.Told.{Told}
use Rattle.read_spec.specs.Editions.{only}
use Rattle.read_spec.specs.Judging.{held}
use Rattle.read_spec.specs.Ceiling.{all_work}
use Rattle.read_call.specs.declared.Asked.{Asked}
use Rattle.read_call.specs.declared.Verdict.{Verdict}
use Rattle.read_call.specs.Answers.{judge_answer, judge_out}
use Rattle.read_numbers.specs.declared.Report.{Report}
use Rattle.read_numbers.specs.Reports.{report_of}
use Rattle.convert_spec.specs.declared.ConvertFault.{ConvertFault}
use Rattle.convert_spec.specs.declared.Found.{Found}
use Rattle.convert_spec.specs.Answers.{other_than, converted_of}
use Rattle.convert_find.specs.Finding.{alone, found_in, line_in}

module _ (t : Told) (named : Edition) (s o : List ℕ) (h : other_than named (held s) ≡ false) (n : ℕ) (ed : n ≡ only named) where
  asked : Asked
  asked = record { editions = n; allowed = all_work; layout = t.layout }

  asks : asked ≡ alone named t.layout
  unfolding asked
  asks = rw ed

  pub at-judged : (v : Verdict) (w : List ℕ) → v ≡ judge_answer t (record { editions = n; allowed = all_work; layout = t.layout }) s o
      → w ≡ judge_out t (record { editions = n; allowed = all_work; layout = t.layout }) s o
      → (x : Result ℕ ConvertFault) (m : Report) → x ≡ converted_of v.answer → m ≡ report_of v.answer
      → (◌≡◌ {A = Found} (record { answer = x; outcome = m.outcome; length = m.length }) (found_in t named s o)) × (w ≡ line_in t named s o)
  unfolding found_in line_in asked
  at-judged v w p q x m i j =
      let verdict : v ≡ judge_answer t (alone named t.layout) s o = p ∙ ap (λ (a : Asked). judge_answer t a s o) asks in
      (rw (h, i, j, verdict), q ∙ ap (λ (a : Asked). judge_out t a s o) asks ∙ rw h)
