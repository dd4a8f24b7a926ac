-- Runs free of marks, each between marks of its own and with a filler free of marks behind it, joined to a stream: what is read of it, run by
-- run and place by place (order W13). Over any way to judge a stretch's bytes. Assumes nothing.
use Rattle.std.specs.Prelude.{◌≡◌, refl, List, [], ◌∷◌, ◌++◌, ℕ, ◌+◌, ◌<◌, length}
use Rattle.std.proofs.Common.{sym, ap, ◌∙◌, append_assoc, append-nil, arith, length-append, get_or-append-add, eq-eqb, ne_eqb, le-leb}
use Rattle.std.proofs.Math.Seq.{drop-append_seam, get_or-append_seam}
use Rattle.base_lists.specs.Free.{Free}
use Rattle.frame_stuff_spec.specs.Stuffing.{mark}
use Rattle.read_stretch.specs.Stretches.{span, after_mark, before_mark, next_span, next_stretch}
use Rattle.read_stretch.specs.Steps.{next-mark, after-mark, next-end}
use Rattle.read_stretch.specs.Shift.{moved}
use Rattle.read_stretch.proofs.Shift.{next-moved, next-frame, next-frame-bytes}
use Rattle.read_spec.specs.Judged.{Judged}
use Rattle.read_readings.specs.Readings.{Reading, reading, readings, readings-step}

-- a run that stands between marks of its own, and the filler behind it
pub record Piece : Type 0 where
  pub run : List ℕ
  pub filler : List ℕ

-- the run is not empty, and no mark stands in either
pub record Fit (p : Piece) : Type 0 where
  pub some : 0 < length p.run
  pub run-free : Free mark p.run
  pub filler-free : Free mark p.filler

abbrev pub Fits : List Piece → Type 0
Fits [] = Unit {0}
Fits (p ∷ ps) = Fit p × Fits ps

-- the stream
abbrev pub joined : List Piece → List ℕ
joined [] = []
joined (p ∷ ps) = mark ∷ (p.run ++ (mark ∷ (p.filler ++ joined ps)))

-- where a run closes whose opening mark stands at a place, where its filler then starts, and where the next piece does
abbrev pub closing_at : ℕ → Piece → ℕ
closing_at at p = at + 1 + length p.run

abbrev pub filler_at : ℕ → Piece → ℕ
filler_at at p = closing_at at p + 1

abbrev pub next_at : ℕ → Piece → ℕ
next_at at p = filler_at at p + length p.filler

-- a filler from place k on, with these pieces behind it, is read where it is not empty and another run follows
abbrev pub filler_read : (List ℕ → Judged) → ℕ → List ℕ → List Piece → List Reading
filler_read judge k f [] = []
filler_read judge k [] (q ∷ ps) = []
filler_read judge k (x ∷ f) (q ∷ ps) = reading (span k (k + length (x ∷ f))) (judge (x ∷ f)) ∷ []

-- what is read of pieces, the first of which opens at a place: each run, and directly behind it its filler
abbrev pub pieces_read : (List ℕ → Judged) → ℕ → List Piece → List Reading
pieces_read judge at [] = []
pieces_read judge at (p ∷ ps) =
    reading (span (at + 1) (closing_at at p)) (judge p.run)
    ∷ (filler_read judge (filler_at at p) p.filler ps ++ pieces_read judge (next_at at p) ps)
