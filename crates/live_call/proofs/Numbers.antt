-- The tests of a link's numbers, branch by branch, and what keeping a byte leaves. Assumes nothing.
use Rattle.std.specs.Prelude.{None}
use mathlib.Core.Path.{◌≡◌, refl}
use mathlib.Core.Bool.{Bool, true, false, cond}
use mathlib.Core.List.{List}
use Prim.Native.Nat.{ℕ, ◌≤◌, ◌<◌}
use native.Mathlib.Omega.{arith}
use lib.Dec.{eqb, ltb, leb}
use lib.ListN.{set}
use borrow.Author.Tests.{eq-eqb, ne_eqb, lt-ltb, le-ltb, eqb-true, leb-true}
use Rattle.base_lists.specs.Never.{never}
use Rattle.frame_stuff_spec.specs.Stuffing.{longest_stretch}
use Rattle.live_spec.specs.declared.Numbers.{Numbers}
use Rattle.live_spec.specs.Taking.{possible, unfinished, closes, kept}
use Rattle.live_spec.specs.Ends.{cut_at, ends_answer}

module _ (n : Numbers) where
  -- no mark came
  pub none-none : n.marked ≡ 0 → n.mark ≡ 0 → eqb n.first 0 ≡ possible n
  unfolding possible
  none-none h g = rw (eq-eqb n.marked 0 h, eq-eqb n.mark 0 g)

  pub none-some : n.marked ≡ 0 → (n.mark ≡ 0 → ⊥) → false ≡ possible n
  unfolding possible
  none-some h g = rw (eq-eqb n.marked 0 h, ne_eqb n.mark 0 g)

  module _ (h : n.marked ≡ 0 → ⊥) where
    -- one came
    pub one-order : n.marked ≡ 1 → n.mark < n.first → leb n.first n.received ≡ possible n
    unfolding possible
    one-order e g = rw (ne_eqb n.marked 0 h, eq-eqb n.marked 1 e, lt-ltb n.mark n.first g)

    pub one-other : n.marked ≡ 1 → n.first ≤ n.mark → false ≡ possible n
    unfolding possible
    one-other e g = rw (ne_eqb n.marked 0 h, eq-eqb n.marked 1 e, le-ltb n.mark n.first g)

    pub neither : (n.marked ≡ 1 → ⊥) → false ≡ possible n
    unfolding possible
    neither e = rw (ne_eqb n.marked 0 h, ne_eqb n.marked 1 e)

  pub closes-none : n.marked ≡ 0 → false ≡ closes n
  unfolding closes
  closes-none h = rw (eq-eqb n.marked 0 h)

  pub closes-some : (n.marked ≡ 0 → ⊥) → ltb n.first n.received ≡ closes n
  unfolding closes
  closes-some h = rw (ne_eqb n.marked 0 h)

  -- the unfinished stretch starts within what was received
  pub order : possible n ≡ true → n.first ≤ n.received
  unfolding possible
  order = go (eqb n.marked 0) (eqb n.mark 0) (eqb n.first 0) refl (eqb n.marked 1) (ltb n.mark n.first) (leb n.first n.received) refl
    where
      go : (a b c : Bool) → eqb n.first 0 ≡ c → (d e f : Bool) → leb n.first n.received ≡ f
          → cond a (cond b c false) (cond d (cond e f false) false) ≡ true → n.first ≤ n.received
      go true true true x d e f y q = omega (arith, eqb-true n.first 0 x)
      go true true false x d e f y q = never q
      go true false c x d e f y q = never q
      go false b c x true true true y q = leb-true n.first n.received y
      go false b c x true true false y q = never q
      go false b c x true false f y q = never q
      go false b c x false e f y q = never q

  module _ (w : List ℕ) (b : ℕ) where
    pub kept-none : n.marked ≡ 0 → w ≡ kept n w b
    unfolding kept
    kept-none h = rw (eq-eqb n.marked 0 h)

    pub kept-room : (n.marked ≡ 0 → ⊥) → unfinished n < longest_stretch → set w (unfinished n) b ≡ kept n w b
    unfolding kept
    kept-room h g = rw (ne_eqb n.marked 0 h, lt-ltb (unfinished n) longest_stretch g)

    pub kept_full : (n.marked ≡ 0 → ⊥) → longest_stretch ≤ unfinished n → w ≡ kept n w b
    unfolding kept
    kept_full h g = rw (ne_eqb n.marked 0 h, le-ltb (unfinished n) longest_stretch g)

  -- the last call
  pub ends-bad : possible n ≡ false → None ≡ ends_answer n
  unfolding ends_answer
  ends-bad e = rw e

  pub ends-none : possible n ≡ true → n.marked ≡ 0 → cut_at n.received 0 ≡ ends_answer n
  unfolding ends_answer
  ends-none e h = rw (e, eq-eqb n.marked 0 h)

  pub ends_some : possible n ≡ true → (n.marked ≡ 0 → ⊥) → cut_at n.mark (unfinished n) ≡ ends_answer n
  unfolding ends_answer
  ends_some e h = rw (e, ne_eqb n.marked 0 h)
