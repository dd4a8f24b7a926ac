-- What the next stretch means: the first whose opening mark stands at the place asked for or later, and the end where there is none.
-- Assumes nothing.
use Rattle.std.specs.Prelude.{◌≡◌, refl, Bool, true, false, List, ℕ, zero, suc, ◌+◌, ◌-◌, ◌≤◌, ◌<◌, eqb, ltb, length, get_or, drop}
use Rattle.std.proofs.Common.{subst, arith, eqb-true, ltb-true, ltb-false}
use Rattle.std.proofs.Math.Decide.{dec_lt, dec_le}
use Rattle.std.proofs.lemmas.Bool.{eqb-false}
use Rattle.frame_stuff_spec.specs.Stuffing.{mark}
use Rattle.read_stretch.specs.declared.Span.{Span}
use Rattle.read_stretch.specs.Stretches.{after_mark, next_span}
use Rattle.read_stretch.specs.Steps.{after-end, after-mark, after-close, after_on, next-end, next-mark, next-on}
use Rattle.read_stretch.specs.Meaning.{NoMark, Stretch, FirstFrom, none, found}

-- the same from an earlier place, where no stretch starts between
earlier : (s : List ℕ) (a a' : ℕ) (p : Span) → a ≤ a' → ((b e : ℕ) → a ≤ b → Stretch s b e → a' ≤ b)
    → FirstFrom s a' p → FirstFrom s a p
earlier s a a' p l skip (none e no_one) = none e (λ b c h t. no_one b c (skip b c h t) t)
earlier s a a' p l skip (found t h least) = found t (omega arith) (λ b c k u. least b c (skip b c k u) u)

no-mark-more : (s : List ℕ) (a i : ℕ) → NoMark s a i → (get_or s i 0 ≡ mark → ⊥) → NoMark s a (i + 1)
no-mark-more s a i c n k l h e = elim (dec_lt k i) [
  | yes m ↦ c k l m e
  | no m ↦ n (subst (λ (j : ℕ). get_or s j 0 ≡ mark) (omega (arith, m)) e)
]

module _ (s : List ℕ) where
  -- what is shown where a mark stands just before a, and n bytes are left from i on
  abbrev After : ℕ → Type 0
  After n = (a i : ℕ) → i + n ≡ length s → 0 < a → a ≤ i → get_or s (a - 1) 0 ≡ mark → NoMark s a i → FirstFrom s a (after_mark a i (drop i s))

  -- a stretch that starts at a or later starts behind a mark at i, where i is at most a
  behind-mark : (a i b e : ℕ) → get_or s i 0 ≡ mark → i ≤ a → a ≤ b → Stretch s b e → i + 1 ≤ b
  behind-mark a i b e m j h x = elim (dec_lt i b) [
    | yes w ↦ omega (arith, w)
    | no w ↦ absurd (x.clear i (omega (arith, w)) (omega (arith, x.some, w)) m)
  ]

  after-step : (n : ℕ) → After n → After (suc n)
  after-step n ih a i len pos l o c = go (eqb (get_or s i 0) mark) refl (ltb a i) refl
    where
      go : (t : Bool) → eqb (get_or s i 0) mark ≡ t → (u : Bool) → ltb a i ≡ u → FirstFrom s a (after_mark a i (drop i s))
      go false t u v =
          let m = eqb-false (get_or s i 0) mark t in
          rw (after_on s a i (omega arith) m) (ih a (i + 1) (omega arith) pos (omega arith) o (no-mark-more s a i c m))
      go true t true v =
          let m = eqb-true (get_or s i 0) mark t in
          rw (after-close s a i (omega arith) m (ltb-true a i v))
          (found (record { behind = pos; opens = o; some = ltb-true a i v; ends = omega arith; closes = m; clear = c }) (omega arith)
          (λ b e h x. h))
      go true t false v =
          let m = eqb-true (get_or s i 0) mark t in
          let j : i ≤ a = ltb-false a i v in
          let i-is : i + 1 - 1 ≡ i = omega arith in
          rw (after-mark s a i (omega arith) m j)
          (earlier s a (i + 1) (after_mark (i + 1) (i + 1) (drop (i + 1) s)) (omega arith) (λ b e h x. behind-mark a i b e m j h x)
          (ih (i + 1) (i + 1) (omega arith) (omega arith) (omega arith) (rw i-is m) (λ k p q w. omega (arith, p, q))))

  after_first : (n : ℕ) → After n
  after_first zero a i len pos l o c =
      none (after-end s a i (omega arith) (omega arith)) (λ b e h t. c e (omega (arith, t.some)) (omega (arith, t.ends)) t.closes)
  after_first (suc n) a i len pos l o c = after-step n (after_first n) a i len pos l o c

  -- what is shown where no mark stands from f up to i, and n bytes are left from i on
  abbrev Before : ℕ → Type 0
  Before n = (f i : ℕ) → i + n ≡ length s → f ≤ i → NoMark s f i → FirstFrom s (f + 1) (next_span s i)

  -- a stretch that opens at f or later opens at i or later
  opens-later : (f i b e : ℕ) → NoMark s f i → f + 1 ≤ b → Stretch s b e → i + 1 ≤ b
  opens-later f i b e c h x = elim (dec_lt i b) [
    | yes w ↦ omega (arith, w)
    | no w ↦ absurd (c (b - 1) (omega arith) (omega (arith, w)) x.opens)
  ]

  before-step : (n : ℕ) → Before n → Before (suc n)
  before-step n ih f i len l c = go (eqb (get_or s i 0) mark) refl
    where
      go : (t : Bool) → eqb (get_or s i 0) mark ≡ t → FirstFrom s (f + 1) (next_span s i)
      go true t =
          let m = eqb-true (get_or s i 0) mark t in
          let i-is : i + 1 - 1 ≡ i = omega arith in
          rw (next-mark s i (omega arith) m)
          (earlier s (f + 1) (i + 1) (after_mark (i + 1) (i + 1) (drop (i + 1) s)) (omega arith) (λ b e h x. opens-later f i b e c h x)
          (after_first n (i + 1) (i + 1) (omega arith) (omega arith) (omega arith) (rw i-is m) (λ k p q w. omega (arith, p, q))))
      go false t =
          let m = eqb-false (get_or s i 0) mark t in
          rw (next-on s i (omega arith) m) (ih f (i + 1) (omega arith) (omega arith) (no-mark-more s f i c m))

  before-first : (n : ℕ) → Before n
  before-first zero f i len l c =
      none (next-end s i (omega arith)) (λ b e h t. c (b - 1) (omega arith) (omega (arith, t.some, t.ends)) t.opens)
  before-first (suc n) f i len l c = before-step n (before-first n) f i len l c

-- an opening mark at `from` or later is a first byte at `from + 1` or later
pub next-first : (s : List ℕ) (from : ℕ) → FirstFrom s (from + 1) (next_span s from)
next-first s from = elim (dec_le from (length s)) [
  | yes l ↦ before-first s (length s - from) from from (omega (arith, l)) (omega arith) (λ k p q w. omega (arith, p, q))
  | no l ↦ none (next-end s from (omega (arith, l))) (λ b e h x. omega (arith, l, x.some, x.ends))
]
