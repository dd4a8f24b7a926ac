-- The next stretch a byte at a time along a stream: what stands at a place decides where to look on. Assumes nothing.
use Rattle.std.specs.Prelude.{◌≡◌, refl, Bool, true, false, cond, List, ℕ, ◌+◌, ◌≤◌, ◌<◌, leb, length, get_or, drop}
use Rattle.std.proofs.Common.{ap, arith, drop_of_length-le, eq-eqb, ne_eqb, lt-ltb, le-ltb, le-leb, leb-true}
use Rattle.base_lists.specs.Walk.{at}
use Rattle.frame_stuff_spec.specs.Stuffing.{mark}
use Rattle.read_stretch.specs.Stretches.{span, after_mark, before_mark, next_span}

pub after-end : (s : List ℕ) (a i : ℕ) → i ≤ length s → length s ≤ i → after_mark a i (drop i s) ≡ span (length s) (length s)
unfolding after_mark
after-end s a i h l = let e : i ≡ length s = omega arith in rw (drop_of_length-le s {i = i} l) (ap (λ (k : ℕ). span k k) e)

-- an empty run
pub after-mark : (s : List ℕ) (a i : ℕ) → i < length s → get_or s i 0 ≡ mark → i ≤ a
    → after_mark a i (drop i s) ≡ after_mark (i + 1) (i + 1) (drop (i + 1) s)
unfolding after_mark
after-mark s a i h e l = rw (at s i h, eq-eqb (get_or s i 0) mark e, le-ltb a i l)

-- a run that isn't empty
pub after-close : (s : List ℕ) (a i : ℕ) → i < length s → get_or s i 0 ≡ mark → a < i → after_mark a i (drop i s) ≡ span a i
unfolding after_mark
after-close s a i h e l = rw (at s i h, eq-eqb (get_or s i 0) mark e, lt-ltb a i l)

pub after_on : (s : List ℕ) (a i : ℕ) → i < length s → (get_or s i 0 ≡ mark → ⊥)
    → after_mark a i (drop i s) ≡ after_mark a (i + 1) (drop (i + 1) s)
unfolding after_mark
after_on s a i h n = rw (at s i h, ne_eqb (get_or s i 0) mark n)

-- from the end or beyond
pub next-end : (s : List ℕ) (i : ℕ) → length s ≤ i → next_span s i ≡ span (length s) (length s)
unfolding next_span before_mark
next-end s i l = go (leb i (length s)) refl
  where
    go : (t : Bool) → leb i (length s) ≡ t → cond t (before_mark i (drop i s)) (span (length s) (length s)) ≡ span (length s) (length s)
    go true t =
        let e : i ≡ length s = omega (arith, leb-true i (length s) t) in
        rw (drop_of_length-le s {i = i} l) (ap (λ (k : ℕ). span k k) e)
    go false t = refl

-- a mark opens
pub next-mark : (s : List ℕ) (i : ℕ) → i < length s → get_or s i 0 ≡ mark → next_span s i ≡ after_mark (i + 1) (i + 1) (drop (i + 1) s)
unfolding next_span before_mark
next-mark s i h e = rw (le-leb i (length s) (omega arith), at s i h, eq-eqb (get_or s i 0) mark e)

-- any other byte is passed over
pub next-on : (s : List ℕ) (i : ℕ) → i < length s → (get_or s i 0 ≡ mark → ⊥) → next_span s i ≡ next_span s (i + 1)
unfolding next_span before_mark
next-on s i h n =
    rw (le-leb i (length s) (omega arith), le-leb (i + 1) (length s) (omega arith), at s i h, ne_eqb (get_or s i 0) mark n)
