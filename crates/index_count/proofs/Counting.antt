-- Counting along a stream, one stretch a turn. Assumes nothing.
use mathlib.Core.Path.{◌≡◌, ap}
use mathlib.Core.List.{List}
use Prim.Native.Nat.{ℕ, ◌+◌, ◌≤◌, ◌<◌}
use native.Mathlib.Omega.{arith}
use lib.ListN.{length}
use Rattle.read_stretch.specs.declared.Span.{Span}
use Rattle.read_stretch.specs.Stretches.{next_span}
use Rattle.read_stretch.proofs.Places.{next-found}
use Rattle.index_count.specs.Counted.{stretches_from}
use Rattle.index_count.specs.Alike.{none-counted, one-counted, end-counted}

-- n stretches are counted up to the place reached, and those from there on are left
pub record Counting (s : List ℕ) (from n place : ℕ) : Type 0 where
  pub whole : n + stretches_from s place ≡ stretches_from s from
  pub few : n ≤ place

pub counting-none : (s : List ℕ) (from : ℕ) → Counting s from 0 from
counting-none s from = record { whole = omega arith; few = omega arith }

module _ (s : List ℕ) (from n place : ℕ) (k : Counting s from n place) where
  pub counting-end : length s ≤ place → n ≡ stretches_from s from
  counting-end h = omega (arith, k.whole, end-counted s place h)

  module _ (p : Span) (e : p ≡ next_span s place) where
    pub counting-last : p.first ≡ p.closing → n ≡ stretches_from s from
    counting-last q = omega (arith, k.whole, none-counted s place (rw e at q))

    -- one more, farther on
    pub counting-on : (p.first ≡ p.closing → ⊥) → place < p.closing
    counting-on d =
        let f = next-found s place (rw e at d) in
        let c : p.closing ≡ (next_span s place).closing = ap (λ (x : Span). x.closing) e in
        omega (arith, f.later, f.stretch.some, c)

    pub counting_more : (p.first ≡ p.closing → ⊥) → Counting s from (n + 1) p.closing
    counting_more d =
        let c : stretches_from s p.closing ≡ stretches_from s (next_span s place).closing = ap (λ (x : Span). stretches_from s x.closing) e in
        record { whole = omega (arith, k.whole, one-counted s place (rw e at d), c); few = omega (arith, k.few, counting-on d) }
