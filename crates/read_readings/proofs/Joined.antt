-- Runs free of marks, each between marks of its own and with a filler free of marks behind it, joined to a stream: what is read of it, run by
-- run and place by place (order W13). Over any way to judge a stretch's bytes. Assumes nothing.
use Rattle.std.specs.Prelude.{◌≡◌, refl, List, [], ◌∷◌, ◌++◌, ℕ, ◌+◌, ◌<◌, length}
use Rattle.std.proofs.Common.{sym, ap, ◌∙◌, append_assoc, append-nil, arith, length-append, get_or-append-add, eq-eqb, ne_eqb, le-leb}
use Rattle.std.proofs.Math.Seq.{drop-append_seam, get_or-append_seam}
use Rattle.base_lists.specs.Free.{Free}
use Rattle.frame_stuff_spec.specs.Stuffing.{mark}
use Rattle.read_stretch.specs.Stretches.{span, after_mark, before_mark, next_span, next_stretch}
use Rattle.read_stretch.specs.Steps.{next-mark, after-mark, next-end}
use Rattle.read_stretch.specs.Shift.{moved}
use Rattle.read_stretch.proofs.Shift.{next-moved, next-frame, next-frame-bytes}
use Rattle.read_spec.specs.Judged.{Judged}
use Rattle.read_readings.specs.Readings.{Reading, reading, readings, readings-step}
use Rattle.read_readings.proofs.Joining.{same_next}
use Rattle.read_readings.specs.Joined.{Piece, Fits, joined, filler_read, pieces_read}

-- a mark and bytes free of marks up to the end: no stretch
open-run : (b : List ℕ) (a i : ℕ) → Free mark b → after_mark a i b ≡ span (i + length b) (i + length b)
unfolding after_mark
open-run [] a i f = ap (λ (k : ℕ). span k k) (omega arith)
open-run (x ∷ b) a i f = rw (ne_eqb x mark f.0) (open-run b a (i + 1) f.1 ∙ ap (λ (k : ℕ). span k k) (omega arith))

opened : (b : List ℕ) → Free mark b → next_span (mark ∷ b) 0 ≡ span (1 + length b) (1 + length b)
unfolding next_span before_mark
opened b f = rw (le-leb 0 (length (mark ∷ b)) (omega arith)) (open-run b 1 1 f)

pub next-open : (a b : List ℕ) → Free mark b → next_span (a ++ (mark ∷ b)) (length a) ≡ span (length a + 1 + length b) (length a + 1 + length b)
next-open a b f =
    next-moved (a ++ (mark ∷ b)) (length a) (omega (arith, length-append a (mark ∷ b)))
    ∙ rw (drop-append_seam a (mark ∷ b)) (ap (moved (length a)) (opened b f) ∙ ap (λ (k : ℕ). span k k) (omega arith))

-- two neighbouring marks: the second opens
pub next-empty : (a c : List ℕ) → next_span (a ++ (mark ∷ (mark ∷ c))) (length a) ≡ next_span (a ++ (mark ∷ (mark ∷ c))) (length a + 1)
next-empty a c =
    let s = a ++ (mark ∷ (mark ∷ c)) in
    let n = length-append a (mark ∷ (mark ∷ c)) in
    let one = get_or-append_seam a mark (mark ∷ c) 0 in
    let two = get_or-append-add a (mark ∷ (mark ∷ c)) 1 0 in
    next-mark s (length a) (omega (arith, n)) one
    ∙ after-mark s (length a + 1) (length a + 1) (omega (arith, n)) two (omega arith)
    ∙ sym (next-mark s (length a + 1) (omega (arith, n)) two)

module _ (judge : List ℕ → Judged) where
  read_one : (s : List ℕ) (from a e : ℕ) (b : List ℕ) → next_span s from ≡ span a e → next_stretch s from ≡ b → (a ≡ e → ⊥)
      → readings judge s from ≡ reading (span a e) (judge b) ∷ readings judge s e
  read_one s from a e b p q d = readings-step judge s from ∙ rw (p, q, ne_eqb a e d)

  read_none : (s : List ℕ) (from n : ℕ) → next_span s from ≡ span n n → readings judge s from ≡ []
  read_none s from n p = readings-step judge s from ∙ rw (p, eq-eqb n n refl)

  -- a run between marks, standing anywhere: its reading, and those from its closing mark
  pub run-read : (a b c : List ℕ) → 0 < length b → Free mark b
      → readings judge (a ++ (mark ∷ (b ++ (mark ∷ c)))) (length a)
      ≡ reading (span (length a + 1) (length a + 1 + length b)) (judge b)
      ∷ readings judge (a ++ (mark ∷ (b ++ (mark ∷ c)))) (length a + 1 + length b)
  run-read a b c h f =
      read_one (a ++ (mark ∷ (b ++ (mark ∷ c)))) (length a) (length a + 1) (length a + 1 + length b) b (next-frame a b c h f) (next-frame-bytes a b c h f)
      (λ e. omega (arith, e))

  -- what pieces are read as behind any bytes
  abbrev pub ReadAs : List Piece → Type 0
  ReadAs ps = (a : List ℕ) → readings judge (a ++ joined ps) (length a) ≡ pieces_read judge (length a) ps

  -- from a closing mark on: the filler, and the pieces behind it
  from-closing : (a f : List ℕ) (ps : List Piece) → Free mark f → ReadAs ps
      → readings judge (a ++ (mark ∷ (f ++ joined ps))) (length a)
      ≡ filler_read judge (length a + 1) f ps ++ pieces_read judge (length a + 1 + length f) ps
  from-closing a f [] g ih =
      rw append-nil (read_none (a ++ (mark ∷ f)) (length a) (length a + 1 + length f) (next-open a f g))
  from-closing a [] (q ∷ ps) g ih =
      let t = a ++ (mark ∷ joined (q ∷ ps)) in
      let e : length (a ++ (mark ∷ [])) ≡ length a + 1 = length-append a (mark ∷ []) in
      let z : length a + 1 + 0 ≡ length a + 1 = omega arith in
      same_next judge t (length a) (length a + 1) (next-empty a (q.run ++ (mark ∷ (q.filler ++ joined ps))))
      ∙ rw (z, ← e, ← append_assoc a (mark ∷ []) (joined (q ∷ ps))) (ih (a ++ (mark ∷ [])))
  from-closing a (x ∷ f) (q ∷ ps) g ih =
      let b = x ∷ f in
      let e : length (a ++ (mark ∷ b)) ≡ length a + 1 + length b = length-append a (mark ∷ b) ∙ omega arith in
      run-read a b (q.run ++ (mark ∷ (q.filler ++ joined ps))) (omega arith) g
      ∙ ap (λ (l : List Reading). reading (span (length a + 1) (length a + 1 + length b)) (judge b) ∷ l)
      (rw (← e, ← append_assoc a (mark ∷ b) (joined (q ∷ ps))) (ih (a ++ (mark ∷ b))))

  -- pieces joined, behind any bytes, are read as they come
  pub joined-readings : (ps : List Piece) → Fits ps → ReadAs ps
  joined-readings [] g a = rw append-nil (read_none a (length a) (length a) (next-end a (length a) (omega arith)))
  joined-readings (p ∷ ps) g a =
      let b = p.run in
      let e : length (a ++ (mark ∷ b)) ≡ length a + 1 + length b = length-append a (mark ∷ b) ∙ omega arith in
      run-read a b (p.filler ++ joined ps) g.0.some g.0.run-free
      ∙ ap (λ (l : List Reading). reading (span (length a + 1) (length a + 1 + length b)) (judge b) ∷ l)
      (rw (← e, ← append_assoc a (mark ∷ b) (mark ∷ (p.filler ++ joined ps)))
      (from-closing (a ++ (mark ∷ b)) p.filler ps g.0.filler-free (joined-readings ps g.1)))
