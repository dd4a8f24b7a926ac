-- The places of the next stretch: in order and within the stream, both the stream's length exactly where there is no stretch, and
-- else between two marks with no mark between. Assumes nothing.
use Rattle.std.specs.Prelude.{◌≡◌, List, ℕ, ◌+◌, ◌-◌, ◌≤◌, length}
use Rattle.std.proofs.Common.{sym, ap, ap₂, subst, ◌∙◌, arith}
use Rattle.std.proofs.Math.Decide.{dec_lt}
use Rattle.read_stretch.specs.declared.Span.{Span}
use Rattle.read_stretch.specs.Stretches.{span, next_span}
use Rattle.read_stretch.specs.Meaning.{Stretch, FirstFrom, none, found}
use Rattle.read_stretch.proofs.Meaning.{next-first}
use Rattle.read_stretch.specs.Places.{Within, NoneFrom, Found, Next, nothing, something}

first-within : (s : List ℕ) (a : ℕ) (p : Span) → FirstFrom s a p → Within (length s) p
first-within s a p (none e no_one) = rw e (record { order = omega arith; inside = omega arith })
first-within s a p (found t h least) = record { order = omega (arith, t.some); inside = omega (arith, t.ends) }

pub next-within : (s : List ℕ) (from : ℕ) → Within (length s) (next_span s from)
next-within s from = first-within s (from + 1) (next_span s from) (next-first s from)

cases : (s : List ℕ) (from : ℕ) (p : Span) → FirstFrom s (from + 1) p → Next s from p
cases s from p (none e no_one) = nothing e (λ b c h t. no_one b c (omega arith) t)
cases s from p (found t h least) =
    something (record { stretch = t; later = omega arith; least = λ b c k u. least b c (omega arith) u })

pub next-cases : (s : List ℕ) (from : ℕ) → Next s from (next_span s from)
next-cases s from = cases s from (next_span s from) (next-first s from)

-- no place before the one asked for
pub next-after : (s : List ℕ) (from : ℕ) → from ≤ length s → from ≤ (next_span s from).first
next-after s from h = go (next_span s from) (next-cases s from)
  where
    go : (p : Span) → Next s from p → from ≤ p.first
    go p (nothing q n) = omega (arith, ap (λ (x : Span). x.first) q)
    go p (something f) = omega (arith, f.later)

-- equal places: the end of the stream, and nothing there
pub next-equal : (s : List ℕ) (from : ℕ) → (next_span s from).first ≡ (next_span s from).closing
    → (next_span s from ≡ span (length s) (length s)) × NoneFrom s from
next-equal s from e = go (next_span s from) e (next-cases s from)
  where
    go : (p : Span) → p.first ≡ p.closing → Next s from p → (p ≡ span (length s) (length s)) × NoneFrom s from
    go p e (nothing q n) = (q, n)
    go p e (something f) = absurd (omega (arith, e, f.stretch.some))

-- nothing there: the end of the stream
pub next-none : (s : List ℕ) (from : ℕ) → NoneFrom s from → next_span s from ≡ span (length s) (length s)
next-none s from n = go (next_span s from) (next-cases s from)
  where
    go : (p : Span) → Next s from p → p ≡ span (length s) (length s)
    go p (nothing q m) = q
    go p (something f) = absurd (n p.first p.closing f.later f.stretch)

-- places that differ: a stretch
pub next-found : (s : List ℕ) (from : ℕ) → ((next_span s from).first ≡ (next_span s from).closing → ⊥) → Found s from (next_span s from)
next-found s from d = go (next_span s from) d (next-cases s from)
  where
    go : (p : Span) → (p.first ≡ p.closing → ⊥) → Next s from p → Found s from p
    go p d (nothing q m) = absurd (d (ap (λ (x : Span). x.first) q ∙ sym (ap (λ (x : Span). x.closing) q)))
    go p d (something f) = f

-- where a stretch starts decides where it closes
pub stretch-closing : (s : List ℕ) (a e e' : ℕ) → Stretch s a e → Stretch s a e' → e ≤ e'
stretch-closing s a e e' x y = elim (dec_lt e' e) [
  | yes l ↦ absurd (x.clear e' (omega (arith, y.some)) l y.closes)
  | no l ↦ omega (arith, l)
]

-- every stretch is the next one from its opening mark
pub stretch-next : (s : List ℕ) (a e : ℕ) → Stretch s a e → next_span s (a - 1) ≡ span a e
stretch-next s a e x = go (next_span s (a - 1)) (next-cases s (a - 1))
  where
    same : (p : Span) → p.first ≡ a → Stretch s p.first p.closing → p ≡ span a e
    same p f y =
        let z : Stretch s a p.closing = subst (λ (b : ℕ). Stretch s b p.closing) f y in
        ap₂ span f (omega (arith, stretch-closing s a p.closing e z x, stretch-closing s a e p.closing x z))

    go : (p : Span) → Next s (a - 1) p → p ≡ span a e
    go p (nothing q n) = absurd (n a e (omega (arith, x.behind)) x)
    go p (something f) =
        same p (omega (arith, f.later, f.least a e (omega (arith, x.behind)) x, x.behind)) f.stretch
