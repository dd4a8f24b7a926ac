-- The buyer's demand 3, first half, for a reader that starts before the mark: the readings from an earlier place come to the mark, so
-- those behind it are the same, and no stretch is passed over. Over any way to judge a stretch's bytes. Assumes nothing.
use Rattle.std.specs.Prelude.{◌≡◌, ℕ, zero, suc, ◌+◌, ◌-◌, ◌≤◌, ◌<◌, drop}
use Rattle.std.proofs.Math.Path.{sym, ap}
use Rattle.std.proofs.Common.{◌∙◌, arith}
use Rattle.std.proofs.Math.Bool.{false, cond}
use mathlib.Core.List.{List, [], ◌∷◌, ◌++◌, map}
use Rattle.std.proofs.Math.Dec.{eqb}
use borrow.Author.Tests.{ne_eqb}
use Rattle.read_stretch.specs.declared.Span.{Span}
use Rattle.read_stretch.specs.Stretches.{span, bytes_at, next_span, next_stretch}
use Rattle.read_stretch.specs.Meaning.{Stretch}
use Rattle.read_stretch.specs.Places.{Found}
use Rattle.read_stretch.proofs.Places.{stretch-next}
use Rattle.read_spec.specs.Judged.{Judged}
use Rattle.read_readings.specs.Readings.{Reading, reading, ends, readings, readings-step}
use Rattle.read_readings.specs.Resync.{from_place, Mark, resync}
use Rattle.read_readings.specs.Reaching.{UpTo, closes, behind, up_to}
use Rattle.read_readings.specs.Joining.{ClosedBy, Joins}

module _ (judge : List ℕ → Judged) (s : List ℕ) where
  -- where a stretch is found: its reading, and those from its closing mark
  pub found-step : (from : ℕ) → Found s from (next_span s from)
      → readings judge s from ≡ reading (next_span s from) (judge (next_stretch s from)) ∷ readings judge s (next_span s from).closing
  found-step from f =
      readings-step judge s from
      ∙ rw (ne_eqb (next_span s from).first (next_span s from).closing (λ e. omega (arith, e, f.stretch.some)))

  -- the same next stretch, the same readings
  pub same_next : (from i : ℕ) → next_span s from ≡ next_span s i → readings judge s from ≡ readings judge s i
  unfolding next_stretch
  same_next from i e =
      readings-step judge s from
      ∙ ap (λ (p : Span). cond (ends p) [] (reading p (judge (bytes_at s p)) ∷ readings judge s p.closing)) e
      ∙ sym (readings-step judge s i)

  join-on : (from i : ℕ) → UpTo s from i
      → (Found s from (next_span s from) → (next_span s from).closing ≤ i → Joins judge s (next_span s from).closing i) → Joins judge s from i
  join-on from i (behind e) on = ([], same_next from i e, tt)
  join-on from i (closes f l) on =
      let (before, e, c) = on f l in
      let r = reading (next_span s from) (judge (next_stretch s from)) in
      (r ∷ before, found-step from f ∙ ap (λ (x : List Reading). r ∷ x) e, (l, c))

  -- at most n places up to the mark
  join-in : (n from i : ℕ) → i ≤ from + n → from ≤ i → Mark s i → Joins judge s from i
  join-in zero from i h g m =
      join-on from i (up_to s from i g m) (λ f l. absurd (omega (arith, h, l, f.later, f.stretch.some)))
  join-in (suc n) from i h g m =
      join-on from i (up_to s from i g m)
      (λ f l. join-in n (next_span s from).closing i (omega (arith, h, f.later, f.stretch.some)) l m)

  -- the readings from any place up to a mark come to that mark
  pub readings-join : (from i : ℕ) → from ≤ i → Mark s i → Joins judge s from i
  readings-join from i h m = join-in i from i (omega arith) h m

  -- and no stretch is passed over: each that starts behind a place is among the readings from that place, behind those that close where it
  -- opens or before
  pub stretch-from : (from p q : ℕ) → from < p → Stretch s p q
      → (before : List Reading)
      × (readings judge s from ≡ before ++ (reading (span p q) (judge (bytes_at s (span p q))) ∷ readings judge s q))
      × ClosedBy (p - 1) before
  unfolding next_stretch
  stretch-from from p q h x =
      let m : Mark s (p - 1) = record { inside = omega (arith, x.some, x.ends); stands = x.opens } in
      let (before, e, c) = readings-join from (p - 1) (omega arith) m in
      let d : eqb p q ≡ false = ne_eqb p q (λ z. omega (arith, z, x.some)) in
      (before, e ∙ ap (λ (l : List Reading). before ++ l) (readings-step judge s (p - 1) ∙ rw (stretch-next s p q x, d)), c)

  -- so each is among the readings from the start
  pub every-stretch : (p q : ℕ) → Stretch s p q
      → (before : List Reading)
      × (readings judge s 0 ≡ before ++ (reading (span p q) (judge (bytes_at s (span p q))) ∷ readings judge s q))
      × ClosedBy (p - 1) before
  every-stretch p q x = stretch-from 0 p q x.behind x

-- two streams that are equal from a mark on: read from their starts, both come to the mark, and behind it the readings are the same
pub resync-whole : (judge : List ℕ → Judged) (x y : List ℕ) (i j : ℕ) → Mark x i → Mark y j → drop i x ≡ drop j y
    → Joins judge x 0 i × Joins judge y 0 j × (map (from_place i) (readings judge x i) ≡ map (from_place j) (readings judge y j))
resync-whole judge x y i j m n e = (
  readings-join judge x 0 i (omega arith) m,
  readings-join judge y 0 j (omega arith) n,
  resync judge x y i j m n e,
)
