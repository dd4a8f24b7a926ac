-- A stream that grows at its end: its stretches stay (`stays`), and the readings of the longer one are those of the shorter and then those
-- from the last one found (`grown`). Over any way to judge a stretch's bytes. Assumes nothing.
use Rattle.std.specs.Prelude.{◌≡◌, refl, List, [], ◌∷◌, ◌++◌, ℕ, zero, suc, ◌+◌, ◌-◌, ◌≤◌, ◌<◌, length, get_or, drop}
use Rattle.std.proofs.Common.{sym, ap, ◌∙◌, arith, length-append, length-drop, eq-eqb}
use Rattle.std.proofs.Math.Path.{subst}
use Rattle.std.proofs.Math.Decide.{dec_lt}
use Rattle.std.proofs.Math.ListN.{get_or-append}
use Rattle.std.proofs.lemmas.List.{take-append-le, drop-append-le}
use Rattle.read_stretch.specs.declared.Span.{Span}
use Rattle.read_stretch.specs.Stretches.{bytes_at, next_span, next_stretch}
use Rattle.read_stretch.specs.Meaning.{Stretch}
use Rattle.read_stretch.specs.Places.{Found, Next, nothing, something}
use Rattle.read_stretch.proofs.Places.{next-cases}
use Rattle.read_spec.specs.Judged.{Judged}
use Rattle.read_readings.specs.Readings.{Reading, reading, readings, readings-step}
use Rattle.read_readings.specs.Reaching.{UpTo, closes, behind, up_to, found-one}
use Rattle.read_readings.proofs.Joining.{same_next, found-step}
use Rattle.read_readings.specs.Growing.{last_first, Grown}

module _ (s more : List ℕ) where
  abbrev t : List ℕ
  t = s ++ more

  byte : (k : ℕ) → k < length s → get_or t k 0 ≡ get_or s k 0
  byte k h = get_or-append s more 0 k h

  -- a stretch stays one
  pub stays : (a e : ℕ) → Stretch s a e → Stretch t a e
  stays a e x = record {
    behind = x.behind;
    opens = byte (a - 1) (omega (arith, x.some, x.ends)) ∙ x.opens;
    some = x.some;
    ends = omega (arith, x.ends, length-append s more);
    closes = byte e x.ends ∙ x.closes;
    clear = λ k l h m. x.clear k l h (sym (byte k (omega (arith, x.ends, h))) ∙ m);
  }

  -- one that closes within the shorter stream was one
  was : (a e : ℕ) → e < length s → Stretch t a e → Stretch s a e
  was a e h x = record {
    behind = x.behind;
    opens = sym (byte (a - 1) (omega (arith, x.some))) ∙ x.opens;
    some = x.some;
    ends = h;
    closes = sym (byte e h) ∙ x.closes;
    clear = λ k l g m. x.clear k l g (byte k (omega (arith, g, h)) ∙ m);
  }

  -- the next stretch found stays the next
  found-stays : (from : ℕ) (p : Span) → Found s from p → Found t from p
  found-stays from p f = record {
    stretch = stays p.first p.closing f.stretch;
    later = f.later;
    least = λ b e h x. elim (dec_lt b p.first) [
      | yes l ↦
          let x-ends : e ≤ p.first - 1 = short b e l x in
          f.least b e h (was b e (omega (arith, x-ends, f.stretch.some, f.stretch.ends)) x)
      | no l ↦ omega (arith, l)
    ];
  }
    where
      short : (b e : ℕ) → b < p.first → Stretch t b e → e ≤ p.first - 1
      short b e l x = elim (dec_lt (p.first - 1) e) [
        | yes g ↦ absurd (x.clear (p.first - 1) (omega (arith, l)) g (stays p.first p.closing f.stretch).opens)
        | no g ↦ omega (arith, g)
      ]

  next-stays : (from : ℕ) → Found s from (next_span s from) → next_span t from ≡ next_span s from
  next-stays from f = go (next_span t from) (next-cases t from)
    where
      g : Found t from (next_span s from)
      g = found-stays from (next_span s from) f

      go : (p : Span) → Next t from p → p ≡ next_span s from
      go p (nothing e n) = absurd (n (next_span s from).first (next_span s from).closing g.later g.stretch)
      go p (something h) = found-one t from p (next_span s from) h g

  bytes-stay : (p : Span) → p.first ≤ p.closing → p.closing ≤ length s → bytes_at t p ≡ bytes_at s p
  bytes-stay p o h =
      rw (drop-append-le p.first s more (omega arith))
      (take-append-le (p.closing - p.first) (drop p.first s) more (omega (arith, length-drop p.first s)))

  module _ (judge : List ℕ → Judged) where
    -- one reading of both
    one : (from : ℕ) → Found s from (next_span s from)
        → readings judge t from ≡ reading (next_span s from) (judge (next_stretch s from)) ∷ readings judge t (next_span s from).closing
    unfolding next_stretch
    one from f =
        let e = next-stays from f in
        let g : Found t from (next_span t from) = subst (Found t from) (sym e) (found-stays from (next_span s from) f) in
        found-step judge t from g
        ∙ rw (e, bytes-stay (next_span s from) (omega (arith, f.stretch.some)) (omega (arith, f.stretch.ends)))

-- from a stretch's first byte on is from its closing mark on: what is found opens there or later
pub inside : (judge : List ℕ → Judged) (s : List ℕ) (p q : ℕ) → Stretch s p q → readings judge s p ≡ readings judge s q
inside judge s p q x = go (up_to s p q (omega (arith, x.some)) (record { inside = x.ends; stands = x.closes }))
  where
    go : UpTo s p q → readings judge s p ≡ readings judge s q
    go (behind e) = same_next judge s p q e
    go (closes f l) =
        absurd (x.clear ((next_span s p).first - 1) (omega (arith, f.later)) (omega (arith, f.stretch.some, l)) f.stretch.opens)

module _ (judge : List ℕ → Judged) (s more : List ℕ) where
  -- the longer stream's readings from place d on
  abbrev On : ℕ → List Reading
  On d = readings judge (s ++ more) d

  swap : (l : List Reading) (p q : ℕ) → On p ≡ On q → On (last_first p l) ≡ On (last_first q l)
  swap [] p q e = e
  swap (r ∷ l) p q e = refl

  grown-none : (from : ℕ) → readings judge s from ≡ [] → Grown judge s more from
  grown-none from e = record { from_first = rw e refl; from-closing = rw e refl }

  grown-one : (from : ℕ) → Found s from (next_span s from) → Grown judge s more (next_span s from).closing → Grown judge s more from
  grown-one from f k =
      let p = next_span s from in
      let r = reading p (judge (next_stretch s from)) in
      let l = readings judge s p.closing in
      let e = one s more judge from f in
      let d = found-step judge s from f in
      let i : On p.closing ≡ On p.first = sym (inside judge (s ++ more) p.first p.closing (stays s more p.first p.closing f.stretch)) in
      record {
        from_first = rw d (e ∙ ap (λ (x : List Reading). r ∷ x) (k.from_first ∙ ap (λ (x : List Reading). l ++ x) (swap l p.closing p.first i)));
        from-closing = rw d (e ∙ ap (λ (x : List Reading). r ∷ x) k.from-closing);
      }

  grown-on : (from : ℕ) → Next s from (next_span s from)
      → (Found s from (next_span s from) → Grown judge s more (next_span s from).closing) → Grown judge s more from
  grown-on from (nothing e n) k = grown-none from (readings-step judge s from ∙ rw (e, eq-eqb (length s) (length s) refl))
  grown-on from (something f) k = grown-one from f (k f)

  grown-in : (n from : ℕ) → length s ≤ from + n → Grown judge s more from
  grown-in zero from h =
      grown-on from (next-cases s from) (λ f. absurd (omega (arith, f.later, f.stretch.some, f.stretch.ends)))
  grown-in (suc n) from h =
      grown-on from (next-cases s from) (λ f. grown-in n (next_span s from).closing (omega (arith, f.later, f.stretch.some)))

  pub grown : (from : ℕ) → Grown judge s more from
  grown from = grown-in (length s) from (omega arith)
