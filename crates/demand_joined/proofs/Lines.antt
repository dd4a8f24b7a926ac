-- Frames joined with no fillers, from the promises alone: a whole run of `read` from the start sees their lines in order and nothing else. And what
-- calls over many stretches find of such a stream, each line with its frame's own edition, nonce and job. Assumes nothing.
use Rattle.std.specs.Prelude.{◌≡◌, refl, List, [], ◌∷◌, ◌++◌, map, ℕ, ◌+◌, ◌-◌, ◌≤◌, length}
use Rattle.std.proofs.Common.{ap, ap₂, subst, ◌∙◌, append_assoc, arith}
use Rattle.frame_stuff_spec.specs.Stuffing.{mark}
use Rattle.read_stretch.specs.Stretches.{span}
use Rattle.frame_spec.specs.Told.{Told, told}
use Rattle.read_spec.specs.Sizes.{Sizes}
use Rattle.read_spec.specs.Judged.{Judged, line}
use Rattle.read_spec.specs.Judging.{judge}
use Rattle.read_spec.specs.Ceiling.{all_work}
use Rattle.read_readings.specs.Readings.{Reading, reading, readings}
use Rattle.read_readings.specs.Joined.{Piece, Fits, joined, filler_read, pieces_read}
use Rattle.read_readings.proofs.Joined.{joined-readings}
use Rattle.read_call.specs.declared.Asked.{Asked}
use Rattle.read_call.specs.Answers.{longest_stream}
use Rattle.demand_reading.specs.Promises.{Seen, Run}
use Rattle.demand_reading.specs.Reaching.{Ended}
use Rattle.demand_joined.specs.Seeing.{the_end}
use Rattle.demand_joined.specs.Frames.{Frame, inside, count_of, line_at, frame-marked, length-frame, inside-some, inside-free, inside-judged}
use Rattle.demand_joined.specs.Fillers.{FillerSeen}
use Rattle.demand_joined.proofs.Joined.{Pair, stream, Sees, nothing_left, last_frame, no-filler, a-filler, joined-read}

module _ {t : Told} {ed : ℕ} where
  -- the stream that frames are joined to
  abbrev pub frames_of : List (Frame t ed) → List ℕ
  frames_of [] = []
  frames_of (f ∷ fs) = f.bytes ++ frames_of fs

  -- their lines, the first of which opens at a place, and then the end
  abbrev pub lines_from : ℕ → List (Frame t ed) → List Seen
  lines_from at [] = the_end at ∷ []
  lines_from at (f ∷ fs) = line_at at f ∷ lines_from (at + length f.bytes) fs

  -- with an empty filler
  abbrev bare : Frame t ed → Pair t ed
  bare f = record { frame = f; filler = []; filler-bytes = tt; filler-free = tt }

  frames_of-stream : (fs : List (Frame t ed)) → frames_of fs ≡ stream (map bare fs)
  frames_of-stream [] = refl
  frames_of-stream (f ∷ fs) = ap (λ (l : List ℕ). f.bytes ++ l) (frames_of-stream fs)

  module _ (Shows : List ℕ → ℕ → ℕ → Seen → Type 0) where
    sees-lines : (fs : List (Frame t ed)) (at : ℕ) {seen : List Seen} → Sees Shows at (map bare fs) seen → seen ≡ lines_from at fs
    sees-lines [] at nothing_left = refl
    sees-lines (f ∷ []) at (last_frame p) =
        let z : at + length f.bytes + 0 ≡ at + length f.bytes = omega arith in
        ap (λ (n : ℕ). line_at at f ∷ (the_end n ∷ [])) z
    sees-lines (f ∷ g ∷ fs) at (no-filler p q e more) =
        let z : at + length f.bytes + 0 ≡ at + length f.bytes = omega arith in
        ap (λ (l : List Seen). line_at at f ∷ l) (sees-lines (g ∷ fs) (at + length f.bytes + 0) more ∙ ap (λ (n : ℕ). lines_from n (g ∷ fs)) z)
    sees-lines (f ∷ g ∷ fs) at (a-filler p q v h s more) = absurd (omega (arith, h))

pub frames-read : (key font : List ℕ) (asked : Asked) → Sizes (told key font asked.layout) → all_work ≤ asked.allowed
    → (fs : List (Frame (told key font asked.layout) asked.editions)) → length (frames_of fs) ≤ longest_stream
    → {seen : List Seen} → Run key font asked (frames_of fs) 0 0 seen → Ended seen → seen ≡ lines_from 0 fs
frames-read key font asked z enough fs h {seen} run end =
    let e = frames_of-stream fs in
    sees-lines (FillerSeen (told key font asked.layout) asked.editions) fs 0
    (joined-read key font asked z enough (map bare fs) (subst (λ (s : List ℕ). length s ≤ longest_stream) e h)
    (subst (λ (s : List ℕ). Run key font asked s 0 0 seen) e run) end)

no-fillers : (j : List ℕ → Judged) (k : ℕ) (ps : List Piece) → filler_read j k [] ps ≡ []
no-fillers j k [] = refl
no-fillers j k (q ∷ ps) = refl

module _ {t : Told} {ed : ℕ} where
  -- the line of a frame that opens at a place, as a stretch is found
  abbrev pub line_read : ℕ → Frame t ed → Reading
  line_read at f = reading (span (at + 1) (at + length f.bytes - 1)) (line f.own f.line (count_of f))

  abbrev pub lines_read : ℕ → List (Frame t ed) → List Reading
  lines_read at [] = []
  lines_read at (f ∷ fs) = line_read at f ∷ lines_read (at + length f.bytes) fs

  abbrev piece : Frame t ed → Piece
  piece f = record { run = inside f; filler = [] }

  frames_of-joined : (fs : List (Frame t ed)) → frames_of fs ≡ joined (map piece fs)
  frames_of-joined [] = refl
  frames_of-joined (f ∷ fs) =
      ap₂ ◌++◌ (frame-marked f) (frames_of-joined fs)
      ∙ ap (λ (r : List ℕ). mark ∷ r) (append_assoc (inside f) (mark ∷ []) (joined (map piece fs)))

  fits : (fs : List (Frame t ed)) → Fits (map piece fs)
  fits [] = tt
  fits (f ∷ fs) = (record { some = inside-some f; run-free = inside-free f; filler-free = tt }, fits fs)

  pieces-lines : (fs : List (Frame t ed)) (at : ℕ) → pieces_read (judge t ed) at (map piece fs) ≡ lines_read at fs
  pieces-lines [] at = refl
  pieces-lines (f ∷ fs) at =
      let c : at + 1 + length (inside f) ≡ at + length f.bytes - 1 = omega (arith, length-frame f) in
      let n : at + 1 + length (inside f) + 1 + 0 ≡ at + length f.bytes = omega (arith, length-frame f) in
      ap₂ ◌∷◌ (ap₂ (λ (k : ℕ) (x : Judged). reading (span (at + 1) k) x) c (inside-judged f))
      (ap (λ (l : List Reading). l ++ pieces_read (judge t ed) (at + 1 + length (inside f) + 1 + 0) (map piece fs))
      (no-fillers (judge t ed) (at + 1 + length (inside f) + 1) (map piece fs))
      ∙ ap (λ (k : ℕ). pieces_read (judge t ed) k (map piece fs)) n ∙ pieces-lines fs (at + length f.bytes))

  -- the readings of frames joined
  pub frames-readings : (fs : List (Frame t ed)) → readings (judge t ed) (frames_of fs) 0 ≡ lines_read 0 fs
  frames-readings fs =
      ap (λ (s : List ℕ). readings (judge t ed) s 0) (frames_of-joined fs) ∙ joined-readings (judge t ed) (map piece fs) (fits fs) [] ∙ pieces-lines fs 0
