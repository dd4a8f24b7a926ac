-- A frame that a write call made, of an edition that the reader allows: what stands between its marks, what that is judged to be, and what a run
-- sees of it at a place. From the writer's promise alone. Assumes nothing.
use Rattle.std.specs.Prelude.{◌≡◌, true, List, [], ◌∷◌, ◌++◌, ℕ, ◌+◌, ◌-◌, ◌≤◌, ◌<◌, length}
use Rattle.std.proofs.Common.{ap, ap₂, ◌∙◌, arith, length-append}
use Rattle.base_lists.specs.Free.{Free}
use Rattle.frame_stuff_spec.specs.Stuffing.{mark, stuffed}
use Rattle.frame_stuff_spec.proofs.Marks.{stuffed-free}
use Rattle.read_stretch.specs.Stretches.{span}
use Rattle.frame_body.specs.Fields.{Own}
use Rattle.frame_body.proofs.Lengths.{job-field-most}
use Rattle.frame_spec.specs.Told.{Told}
use Rattle.frame_spec.specs.Frames.{sealed_body, framed, frame_of}
use Rattle.frame_spec.specs.Lengths.{beside_line, stretch-some}
use Rattle.read_spec.specs.Editions.{allows}
use Rattle.read_spec.specs.Judged.{label_of, Judged, line}
use Rattle.read_spec.specs.Judging.{judge}
use Rattle.read_spec.specs.Ceiling.{all_work}
use Rattle.read_readings.specs.Readings.{reading}
use Rattle.demand_reading.specs.Promises.{Seen}
use Rattle.demand_reading.proofs.Written.{written-given}
use Rattle.demand_reading.specs.EveryLine.{given}
use Rattle.demand_joined.specs.Makes.{Makes, makes-accepts, makes-frame}
use Rattle.demand_joined.specs.Seeing.{seen_of}

pub record Frame (t : Told) (ed : ℕ) : Type 0 where
  pub own : Own
  pub line : List ℕ
  pub bytes : List ℕ
  pub makes : Makes t own line bytes
  pub allowed : allows ed own.edition ≡ true

module _ {t : Told} {ed : ℕ} where
  -- what stands between its marks
  unfoldable pub inside : Frame t ed → List ℕ
  inside f = stuffed (sealed_body t f.own f.line)

  -- its count: n + 39 (document 01, 'Numbers returned'), in edition two n + 46 (order W6)
  abbrev pub count_of : Frame t ed → ℕ
  count_of f = length f.line + beside_line f.own.edition

  -- its line, where its opening mark stands at a place: with its edition and job, its count, and the places of its first byte and closing mark
  abbrev pub line_at : ℕ → Frame t ed → Seen
  line_at at f = given (at + 1) (at + length f.bytes - 1) (label_of f.own) f.line (count_of f)

  module _ (f : Frame t ed) where
    pub frame-marked : f.bytes ≡ mark ∷ (inside f ++ (mark ∷ []))
    unfolding inside frame_of framed
    frame-marked = makes-frame f.makes

    pub length-frame : length f.bytes ≡ length (inside f) + 2
    length-frame = ap length frame-marked ∙ omega (arith, length-append (inside f) (mark ∷ []))

    pub inside-some : 0 < length (inside f)
    unfolding inside
    inside-some = stretch-some (makes-accepts f.makes).sealable

    pub inside-free : Free mark (inside f)
    unfolding inside
    inside-free = stuffed-free (sealed_body t f.own f.line)

    -- it is judged to be its line
    pub inside-judged : judge t ed (inside f) ≡ line f.own f.line (count_of f)
    unfolding inside
    inside-judged = written-given t ed f.own f.line (makes-accepts f.makes) f.allowed

    -- and takes no more than all the work
    pub count-within : count_of f ≤ all_work
    count-within = omega (arith, (makes-accepts f.makes).sealable.line-to, job-field-most f.own.edition)

    pub line-seen : (at : ℕ) (j : Judged) → j ≡ line f.own f.line (count_of f)
        → seen_of (reading (span (at + 1) (at + 1 + length (inside f))) j) ≡ line_at at f
    line-seen at j e =
        let c : at + 1 + length (inside f) ≡ at + length f.bytes - 1 = omega (arith, length-frame) in
        ap₂ (λ (k : ℕ) (x : Judged). seen_of (reading (span (at + 1) k) x)) c e
