-- Order W13, second half, from the promises alone: frames of one key, font and layout, each with a filler of bytes free of marks behind it, joined
-- within the size limit, are seen by a whole run of `read` from the start as their lines in order and, between two of them, one reading of a filler
-- that is not empty: a refusal, or where a write call makes it, exactly its line. The filler behind the last frame leaves nothing. Assumes nothing.
use Rattle.std.specs.Prelude.{◌≡◌, refl, ℕ, ◌+◌, ◌≤◌, ◌<◌}
use Rattle.std.proofs.Common.{sym, ap₂, ◌∙◌, length-append}
use Rattle.std.proofs.Math.Path.{ap, subst}
use mathlib.Core.List.{List, [], ◌∷◌, ◌++◌, map, map-append, append_assoc}
use native.Mathlib.Omega.{arith}
use Rattle.std.proofs.Math.ListN.{length}
use Rattle.base_lists.specs.Below.{Below}
use Rattle.base_lists.specs.Free.{Free}
use Rattle.frame_stuff_spec.specs.Stuffing.{mark}
use Rattle.read_stretch.specs.Stretches.{span}
use Rattle.frame_spec.specs.Told.{Told, told}
use Rattle.read_spec.specs.Sizes.{Sizes}
use Rattle.read_spec.specs.Judged.{Judged, line}
use Rattle.read_spec.specs.Ceiling.{within, all_work}
use Rattle.read_spec.proofs.Allowance.{enough-allowed, all-allowed}
use Rattle.read_readings.specs.Readings.{Reading, reading}
use Rattle.read_readings.specs.Joined.{Piece, Fits, joined, filler_at, filler_read, pieces_read}
use Rattle.read_call.specs.declared.Asked.{Asked}
use Rattle.read_call.specs.Answers.{longest_stream, judged_within}
use Rattle.demand_reading.specs.Promises.{Seen, Run}
use Rattle.demand_reading.specs.Reaching.{Ended}
use Rattle.demand_joined.specs.Seeing.{seen_of, the_end, seen_to}
use Rattle.demand_joined.specs.Stretches.{stretches-read}
use Rattle.demand_joined.specs.Frames.{Frame, inside, count_of, line_at, frame-marked, length-frame}
use Rattle.demand_joined.specs.Frames.{inside-some, inside-free, inside-judged, count-within, line-seen}
use Rattle.demand_joined.specs.Fillers.{Refused, Unmade, FillerSeen, a-refusal, its-line, filler-seen}

-- a frame, and the filler behind it
pub record Pair (t : Told) (ed : ℕ) : Type 0 where
  pub frame : Frame t ed
  pub filler : List ℕ
  pub filler-bytes : Below 256 filler
  pub filler-free : Free mark filler

module _ {t : Told} {ed : ℕ} where
  -- the stream that pairs are joined to
  abbrev pub stream : List (Pair t ed) → List ℕ
  stream [] = []
  stream (p ∷ ps) = p.frame.bytes ++ (p.filler ++ stream ps)

  -- where the filler of a pair starts whose frame opens at a place, and where the next pair does
  abbrev pub behind_frame : ℕ → Pair t ed → ℕ
  behind_frame at p = at + length p.frame.bytes

  abbrev pub behind_filler : ℕ → Pair t ed → ℕ
  behind_filler at p = behind_frame at p + length p.filler

  -- what a run sees of pairs, the first of which opens at a place, up to the end, where a filler from one place up to another shows so
  pub data Sees (Shows : List ℕ → ℕ → ℕ → Seen → Type 0) : ℕ → List (Pair t ed) → List Seen → Type 0 where
    nothing_left : {at : ℕ} → Sees Shows at [] (the_end at ∷ [])
    last_frame : {at : ℕ} (p : Pair t ed) → Sees Shows at (p ∷ []) (line_at at p.frame ∷ (the_end (behind_filler at p) ∷ []))
    no-filler : {at : ℕ} (p q : Pair t ed) {ps : List (Pair t ed)} {rest : List Seen} → length p.filler ≡ 0
        → Sees Shows (behind_filler at p) (q ∷ ps) rest → Sees Shows at (p ∷ q ∷ ps) (line_at at p.frame ∷ rest)
    a-filler : {at : ℕ} (p q : Pair t ed) {ps : List (Pair t ed)} {rest : List Seen} (v : Seen) → 0 < length p.filler
        → Shows p.filler (behind_frame at p) (behind_filler at p) v
        → Sees Shows (behind_filler at p) (q ∷ ps) rest → Sees Shows at (p ∷ q ∷ ps) (line_at at p.frame ∷ (v ∷ rest))

  -- no filler between two frames is made by a write call
  abbrev pub Apart : List (Pair t ed) → Type 0
  Apart [] = Unit {0}
  Apart (p ∷ []) = Unit {0}
  Apart (p ∷ q ∷ ps) = Unmade t ed p.filler × Apart (q ∷ ps)

  abbrev piece : Pair t ed → Piece
  piece p = record { run = inside p.frame; filler = p.filler }

  stream-joined : (ps : List (Pair t ed)) → stream ps ≡ joined (map piece ps)
  stream-joined [] = refl
  stream-joined (p ∷ ps) =
      ap₂ (λ (f r : List ℕ). f ++ (p.filler ++ r)) (frame-marked p.frame) (stream-joined ps)
      ∙ ap (λ (r : List ℕ). mark ∷ r) (append_assoc (inside p.frame) (mark ∷ []) (p.filler ++ joined (map piece ps)))

  stream-fits : (ps : List (Pair t ed)) → Fits (map piece ps)
  stream-fits [] = tt
  stream-fits (p ∷ ps) = (record { some = inside-some p.frame; run-free = inside-free p.frame; filler-free = p.filler-free }, stream-fits ps)

  length-pair : (p : Pair t ed) (ps : List (Pair t ed)) → length (stream (p ∷ ps)) ≡ length p.frame.bytes + length p.filler + length (stream ps)
  length-pair p ps = omega (arith, length-append p.frame.bytes (p.filler ++ stream ps), length-append p.filler (stream ps))

  -- a way to judge that gives each frame its line, and each filler what shows of it
  module _ (j : List ℕ → Judged) (Shows : List ℕ → ℕ → ℕ → Seen → Type 0)
      (frames : (f : Frame t ed) → j (inside f) ≡ line f.own f.line (count_of f))
      (fillers : (p : Pair t ed) (a e : ℕ) → Shows p.filler a e (seen_of (reading (span a e) (j p.filler)))) where
    seen-behind : (n : ℕ) (x y : List Reading) → seen_to n (x ++ y) ≡ map seen_of x ++ seen_to n y
    seen-behind n x y =
        ap (λ (l : List Seen). l ++ (the_end n ∷ [])) (map-append seen_of x y) ∙ append_assoc (map seen_of x) (map seen_of y) (the_end n ∷ [])

    by-filler : (at : ℕ) (p q : Pair t ed) (ps : List (Pair t ed)) (rest : List Seen) (f : List ℕ) → p.filler ≡ f
        → Sees Shows (behind_filler at p) (q ∷ ps) rest
        → Sees Shows at (p ∷ q ∷ ps) (line_at at p.frame ∷ (map seen_of (filler_read j (behind_frame at p) f (map piece (q ∷ ps))) ++ rest))
    by-filler at p q ps rest [] e more = no-filler p q (ap length e) more
    by-filler at p q ps rest (x ∷ f) e more =
        let k = behind_frame at p in
        let b = x ∷ f in
        let v : Shows p.filler k (behind_filler at p) (seen_of (reading (span k (k + length b)) (j b))) =
        subst (λ (g : List ℕ). Shows p.filler k (behind_filler at p) (seen_of (reading (span k (k + length g)) (j g)))) e (fillers p k (behind_filler at p)) in
        a-filler p q (seen_of (reading (span k (k + length b)) (j b))) (omega (arith, ap length e)) v more

    sees : (ps : List (Pair t ed)) (at : ℕ) → Sees Shows at ps (seen_to (at + length (stream ps)) (pieces_read j at (map piece ps)))
    sees [] at =
        let z : at ≡ at + 0 = omega arith in
        subst (λ (n : ℕ). Sees Shows at [] (the_end n ∷ [])) z nothing_left
    sees (p ∷ []) at =
        let n : behind_filler at p ≡ at + length (stream (p ∷ [])) = omega (arith, length-pair p []) in
        subst (Sees Shows at (p ∷ []))
        (ap₂ (λ (v : Seen) (k : ℕ). v ∷ (the_end k ∷ [])) (sym (line-seen p.frame at (j (inside p.frame)) (frames p.frame))) n) (last_frame p)
    sees (p ∷ q ∷ ps) at =
        let qs = map piece (q ∷ ps) in
        let f = p.filler in
        let k : filler_at at (piece p) ≡ behind_frame at p = omega (arith, length-frame p.frame) in
        let n : at + length (stream (p ∷ q ∷ ps)) ≡ behind_filler at p + length (stream (q ∷ ps)) = omega (arith, length-pair p (q ∷ ps)) in
        let a = filler_at at (piece p) in
        let tail = seen-behind (at + length (stream (p ∷ q ∷ ps))) (filler_read j a f qs) (pieces_read j (a + length f) qs) in
        let places = ap₂ (λ (a m : ℕ). map seen_of (filler_read j a f qs) ++ seen_to m (pieces_read j (a + length f) qs)) k n in
        subst (Sees Shows at (p ∷ q ∷ ps))
        (sym (ap₂ ◌∷◌ (line-seen p.frame at (j (inside p.frame)) (frames p.frame)) (tail ∙ places)))
        (by-filler at p q ps (seen_to (behind_filler at p + length (stream (q ∷ ps))) (pieces_read j (behind_filler at p) qs)) f refl
        (sees (q ∷ ps) (behind_filler at p)))

  -- where no filler is made, each that is seen is a refusal
  refused : {at : ℕ} {ps : List (Pair t ed)} {seen : List Seen} → Apart ps → Sees (FillerSeen t ed) at ps seen → Sees (λ f. Refused) at ps seen
  refused a nothing_left = nothing_left
  refused a (last_frame p) = last_frame p
  refused a (no-filler p q e more) = no-filler p q e (refused a.1 more)
  refused a (a-filler p q v h (a-refusal n r) more) = a-filler p q v h r (refused a.1 more)
  refused a (a-filler p q v h (its-line b L k m) more) = absurd (a.0 b L k m)

module _ (key font : List ℕ) (asked : Asked) (z : Sizes (told key font asked.layout)) (enough : all_work ≤ asked.allowed)
    (ps : List (Pair (told key font asked.layout) asked.editions)) (h : length (stream ps) ≤ longest_stream) where
  pub joined-read : {seen : List Seen} → Run key font asked (stream ps) 0 0 seen → Ended seen
      → Sees (FillerSeen (told key font asked.layout) asked.editions) 0 ps seen
  unfolding judged_within
  joined-read {seen} run end =
      let t = told key font asked.layout in
      let ed = asked.editions in
      let j = judged_within t asked in
      let e = stream-joined ps in
      let is : seen ≡ seen_to (length (joined (map piece ps))) (pieces_read j 0 (map piece ps)) =
      stretches-read key font asked z (map piece ps) (stream-fits ps) (subst (λ (s : List ℕ). length s ≤ longest_stream) e h)
      (subst (λ (s : List ℕ). Run key font asked s 0 0 seen) e run) end in
      let n : length (joined (map piece ps)) ≡ 0 + length (stream ps) = ap length (sym e) ∙ omega arith in
      subst (Sees (FillerSeen t ed) 0 ps) (sym (is ∙ ap (λ (m : ℕ). seen_to m (pieces_read j 0 (map piece ps))) n))
      (sees j (FillerSeen t ed)
      (λ f. ap (within asked.allowed) (inside-judged f)
      ∙ enough-allowed asked.allowed (line f.own f.line (count_of f)) (omega (arith, count-within f, enough)))
      (λ p a e. subst (λ (x : Judged). FillerSeen t ed p.filler a e (seen_of (reading (span a e) x)))
      (sym (all-allowed t z ed p.filler p.filler-bytes asked.allowed enough)) (filler-seen t z ed p.filler p.filler-bytes a e)) ps 0)

  pub joined-read-apart : Apart ps → {seen : List Seen} → Run key font asked (stream ps) 0 0 seen → Ended seen → Sees (λ f. Refused) 0 ps seen
  joined-read-apart a run end = refused a (joined-read run end)
