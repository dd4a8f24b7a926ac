-- The next stretch depends on the bytes from the place on and on nothing before, and a frame that opens there is the next stretch.
-- Assumes nothing.
use Rattle.std.specs.Prelude.{◌≡◌, refl, Bool, true, false, cond, List, [], ◌∷◌, ◌++◌, ℕ, ◌+◌, ◌-◌, ◌≤◌, ◌<◌, eqb, ltb, length, drop}
use Rattle.std.proofs.Common.{sym, ap, ap₂, ◌∙◌, arith, length-append, drop-drop, ne_eqb, lt-ltb, le-ltb, ltb-true, ltb-false, le-leb}
use Rattle.std.proofs.Math.Seq.{drop-append_seam, drop-append-add, take-append_seam}
use Rattle.base_lists.specs.Free.{Free}
use Rattle.frame_stuff_spec.specs.Stuffing.{mark}
use Rattle.read_stretch.specs.declared.Span.{Span}
use Rattle.read_stretch.specs.Stretches.{span, after_mark, before_mark, next_span, bytes_at, next_stretch}
use Rattle.read_stretch.proofs.Places.{next-within}
use Rattle.read_stretch.specs.Shift.{moved, Alike, NextAlike}

-- by the same test
choose : (t : Bool) (d : ℕ) (p q p' q' : Span) → p' ≡ moved d p → q' ≡ moved d q → cond t p' q' ≡ moved d (cond t p q)
choose true d p q p' q' e f = e
choose false d p q p' q' e f = f

ltb-moved : (a i d : ℕ) → ltb (a + d) (i + d) ≡ ltb a i
ltb-moved a i d = go (ltb a i) refl
  where
    go : (t : Bool) → ltb a i ≡ t → ltb (a + d) (i + d) ≡ t
    go true e = lt-ltb (a + d) (i + d) (omega (arith, ltb-true a i e))
    go false e = le-ltb (a + d) (i + d) (omega (arith, ltb-false a i e))

after-moved : (l : List ℕ) (a i d : ℕ) → after_mark (a + d) (i + d) l ≡ moved d (after_mark a i l)
unfolding after_mark
after-moved [] a i d = refl
after-moved (b ∷ l) a i d =
    let n : i + d + 1 ≡ i + 1 + d = omega arith in
    rw (ltb-moved a i d, n)
    (choose (eqb b mark) d _ _ _ _
    (choose (ltb a i) d (span a i) _ _ _ refl (after-moved l (i + 1) (i + 1) d))
    (after-moved l a (i + 1) d))

before-moved : (l : List ℕ) (i d : ℕ) → before_mark (i + d) l ≡ moved d (before_mark i l)
unfolding before_mark
before-moved [] i d = refl
before-moved (b ∷ l) i d =
    let n : i + d + 1 ≡ i + 1 + d = omega arith in
    rw n (choose (eqb b mark) d _ _ _ _ (after-moved l (i + 1) (i + 1) d) (before-moved l (i + 1) d))

-- from a place on: the next stretch of the rest of the stream, that many places further on
pub next-moved : (s : List ℕ) (i : ℕ) → i ≤ length s → next_span s i ≡ moved i (next_span (drop i s) 0)
unfolding next_span
next-moved s i h =
    let z : 0 + i ≡ i = omega arith in
    rw (le-leb i (length s) h, le-leb 0 (length (drop i s)) (omega arith))
    (sym (ap (λ (k : ℕ). before_mark k (drop i s)) z) ∙ before-moved (drop i s) 0 i)

bytes-moved : (s : List ℕ) (i : ℕ) (p : Span) → bytes_at s (moved i p) ≡ bytes_at (drop i s) p
bytes-moved s i p =
    let n : p.closing + i - (p.first + i) ≡ p.closing - p.first = omega arith in
    let m : p.first + i ≡ i + p.first = omega arith in
    rw (n, m, drop-drop p.first i s)

pub stretch-moved : (s : List ℕ) (i : ℕ) → i ≤ length s → next_stretch s i ≡ next_stretch (drop i s) 0
unfolding next_stretch
stretch-moved s i h = ap (bytes_at s) (next-moved s i h) ∙ bytes-moved s i (next_span (drop i s) 0)

pub next-shift : {x y : List ℕ} {i j : ℕ} → Alike x i y j → NextAlike x i y j
next-shift {x} {y} {i} {j} h =
    let p = next_span (drop i x) 0 in
    let ex : next_span x i ≡ moved i p = next-moved x i h.in-x in
    let ey : next_span y j ≡ moved j p = next-moved y j h.in-y ∙ ap (λ (l : List ℕ). moved j (next_span l 0)) (sym h.rest) in
    let back : (d k : ℕ) → k + d - d ≡ k = λ d k. omega arith in
    record {
      first = rw (ex, ey) (back i p.first ∙ sym (back j p.first));
      closing = rw (ex, ey) (back i p.closing ∙ sym (back j p.closing));
      bytes = stretch-moved x i h.in-x ∙ ap (λ (l : List ℕ). next_stretch l 0) h.rest ∙ sym (stretch-moved y j h.in-y);
      on = record {
        in-x = (next-within x i).inside;
        in-y = (next-within y j).inside;
        rest = rw (ex, ey) (further x i p.closing ∙ ap (drop p.closing) h.rest ∙ sym (further y j p.closing));
      };
    }
  where
    further : (s : List ℕ) (d k : ℕ) → drop (k + d) s ≡ drop k (drop d s)
    further s d k = let m : k + d ≡ d + k = omega arith in rw (m, drop-drop k d s)

-- a body with no mark, up to the mark that closes it
run-closes : (b c : List ℕ) (a i : ℕ) → Free mark b → a < i + length b → after_mark a i (b ++ mark ∷ c) ≡ span a (i + length b)
unfolding after_mark
run-closes [] c a i f h = let z : i + 0 ≡ i = omega arith in rw (lt-ltb a i (omega arith), z)
run-closes (x ∷ b) c a i f h =
    rw (ne_eqb x mark f.0) (run-closes b c a (i + 1) f.1 (omega arith) ∙ ap (span a) (omega arith))

opened : (b c : List ℕ) → 0 < length b → Free mark b → next_span (mark ∷ (b ++ mark ∷ c)) 0 ≡ span 1 (1 + length b)
unfolding next_span before_mark
opened b c h f = rw (le-leb 0 (length (mark ∷ (b ++ mark ∷ c))) (omega arith)) (run-closes b c 1 1 f (omega arith))

-- a mark, a body that isn't empty and holds no mark, a mark: standing anywhere, it is the next stretch from its opening mark
pub next-frame : (a b c : List ℕ) → 0 < length b → Free mark b
    → next_span (a ++ (mark ∷ (b ++ mark ∷ c))) (length a) ≡ span (length a + 1) (length a + 1 + length b)
next-frame a b c h f =
    next-moved (a ++ (mark ∷ (b ++ mark ∷ c))) (length a) (omega (arith, length-append a (mark ∷ (b ++ mark ∷ c))))
    ∙ rw (drop-append_seam a (mark ∷ (b ++ mark ∷ c)))
    (ap (moved (length a)) (opened b c h f) ∙ ap₂ span (omega arith) (omega arith))

pub next-frame-bytes : (a b c : List ℕ) → 0 < length b → Free mark b → next_stretch (a ++ (mark ∷ (b ++ mark ∷ c))) (length a) ≡ b
unfolding next_stretch
next-frame-bytes a b c h f =
    let n : length a + 1 + length b - (length a + 1) ≡ length b = omega arith in
    ap (bytes_at (a ++ (mark ∷ (b ++ mark ∷ c)))) (next-frame a b c h f)
    ∙ rw (n, drop-append-add a (mark ∷ (b ++ mark ∷ c)) 1) (take-append_seam b (mark ∷ c))
