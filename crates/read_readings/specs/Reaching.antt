-- From a place up to a mark: the next stretch closes at the mark or before it, or it is the next one from the mark too, since no mark
-- stands inside a stretch. Assumes nothing.
use Rattle.std.specs.Prelude.{◌≡◌, List, ℕ, ◌≤◌}
use Rattle.std.proofs.Common.{sym, ap₂, subst, ◌∙◌, arith}
use Rattle.std.proofs.Math.Decide.{dec_le, dec_lt}
use Rattle.read_stretch.specs.declared.Span.{Span}
use Rattle.read_stretch.specs.Stretches.{span, next_span}
use Rattle.read_stretch.specs.Meaning.{Stretch}
use Rattle.read_stretch.specs.Places.{Found, Next, nothing, something}
use Rattle.read_stretch.proofs.Places.{next-cases, next-none, stretch-closing}
use Rattle.read_readings.specs.Resync.{Mark}

-- what is found from a place is one stretch
pub found-one : (s : List ℕ) (from : ℕ) (p q : Span) → Found s from p → Found s from q → p ≡ q
found-one s from p q f g =
    let e : p.first ≡ q.first =
    omega (arith, f.least q.first q.closing g.later g.stretch, g.least p.first p.closing f.later f.stretch) in
    let h : Stretch s q.first p.closing = subst (λ (a : ℕ). Stretch s a p.closing) e f.stretch in
    let to : p.closing ≤ q.closing = stretch-closing s q.first p.closing q.closing h g.stretch in
    let back : q.closing ≤ p.closing = stretch-closing s q.first q.closing p.closing g.stretch h in
    ap₂ span e (omega (arith, to, back))

-- the next stretch from a place up to a mark closes there or before it, or is the next one from the mark
pub data UpTo (s : List ℕ) (from i : ℕ) : Type 0 where
  closes : Found s from (next_span s from) → (next_span s from).closing ≤ i → UpTo s from i
  behind : next_span s from ≡ next_span s i → UpTo s from i

pub up_to : (s : List ℕ) (from i : ℕ) → from ≤ i → Mark s i → UpTo s from i
up_to s from i h m = go (next-cases s from)
  where
    from-mark : (p : Span) → Found s from p → (p.closing ≤ i → ⊥) → Found s i p
    from-mark p f n = elim (dec_lt i p.first) [
      | yes l ↦ record { stretch = f.stretch; later = l; least = λ b e k x. f.least b e (omega arith) x }
      | no l ↦ absurd (f.stretch.clear i (omega (arith, l)) (omega (arith, n)) m.stands)
    ]

    same : Found s i (next_span s from) → Next s i (next_span s i) → next_span s from ≡ next_span s i
    same f (nothing e n) = absurd (n (next_span s from).first (next_span s from).closing f.later f.stretch)
    same f (something g) = found-one s i (next_span s from) (next_span s i) f g

    go : Next s from (next_span s from) → UpTo s from i
    go (nothing e n) = behind (e ∙ sym (next-none s i (λ b c k x. n b c (omega arith) x)))
    go (something f) = elim (dec_le (next_span s from).closing i) [
      | yes l ↦ closes f l
      | no l ↦ behind (same (from-mark (next_span s from) f l) (next-cases s i))
    ]
