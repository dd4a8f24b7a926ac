-- With a key and a font of their sizes and room for the longest line, the line found is the one that the converter's definition sorts the stretch to.
-- Assumes nothing.
use Rattle.std.specs.Prelude.{◌≡◌, Bool, List, ℕ, ◌≤◌, length}
use Rattle.std.proofs.Math.Path.{refl}
use Rattle.std.proofs.Common.{ap, arith}
use Rattle.std.proofs.Math.Bool.{true, false}
use borrow.Author.Tests.{eq-eqb, le-ltb}
use Rattle.base_lists.specs.Below.{Below}
use Rattle.line_spec.specs.Lines.{longest}
use Rattle.frame_body.specs.declared.Edition.{Edition}
use Rattle.frame_body.specs.Fields.{digest_length}
use Rattle.frame_spec.specs.Told.{Told, key_length}
use Rattle.read_spec.specs.Sizes.{Sizes}
use Rattle.read_spec.specs.Editions.{only}
use Rattle.read_spec.specs.Judged.{Judged}
use Rattle.read_spec.specs.Judging.{judge, held}
use Rattle.read_spec.specs.Ceiling.{all_work}
use Rattle.read_spec.proofs.Allowance.{all-allowed}
use Rattle.read_call.specs.declared.Verdict.{Verdict}
use Rattle.read_call.specs.Answers.{sized_told, verdict_of, judged_within, judge_answer, judge_out, line_over}
use Rattle.convert_spec.specs.Answers.{other_than, sorted, found_of, line_out}
use Rattle.convert_spec.proofs.Sorting.{sorted-judged, sorted-misnamed}
use Rattle.convert_find.specs.Finding.{alone, found_for, found_in, line_in}

module _ (t : Told) (named : Edition) (s o : List ℕ) (z : Sizes t) (bytes : Below 256 s) (room : longest ≤ length o) where
  sized : sized_told t ≡ true
  unfolding sized_told
  sized = rw (eq-eqb (length t.key) key_length z.key-is) (eq-eqb (length t.font) digest_length z.font-is)

  -- all work is allowed, so that a reader's own verdict is the whole of it
  its : judged_within t (alone named t.layout) s ≡ judge t (only named) s
  unfolding judged_within
  its = all-allowed t z (only named) s bytes all_work (omega arith)

  answered : judge_answer t (alone named t.layout) s o ≡ verdict_of (judge t (only named) s)
  unfolding judge_answer
  answered = rw (sized, le-ltb (length o) longest room) (ap verdict_of its)

  left : judge_out t (alone named t.layout) s o ≡ line_over (judge t (only named) s) o
  unfolding judge_out
  left = rw (sized, le-ltb (length o) longest room) (ap (λ (y : Judged). line_over y o) its)

  pub found-sorted : (found_in t named s o ≡ found_of (sorted t named s)) × (line_in t named s o ≡ line_out (sorted t named s) o)
  unfolding found_in line_in
  found-sorted = go (other_than named (held s)) refl
    where
      go : (b : Bool) → other_than named (held s) ≡ b
          → (found_in t named s o ≡ found_of (sorted t named s)) × (line_in t named s o ≡ line_out (sorted t named s) o)
      go true h = let e = sorted-misnamed t named s h in (rw (h, e), rw (h, e))
      go false h =
          let e = sorted-judged t named s h in
          (rw (h, e) (ap (λ (v : Verdict). found_for v.answer) answered), rw (h, e) left)
