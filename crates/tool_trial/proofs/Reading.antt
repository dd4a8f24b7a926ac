-- What the loop over a word's decimal digits keeps, and what each of its returns gives.
-- Assumes nothing.
use Rattle.std.specs.Prelude.{Some, None}
use mathlib.Core.Path.{◌≡◌, refl, sym, ◌∙◌}
use mathlib.Core.Bool.{Bool, true, false, cond}
use mathlib.Core.List.{List}
use Prim.Native.Nat.{ℕ, ◌+◌, ◌-◌, ◌*◌, ◌≤◌, ◌<◌}
use native.Mathlib.Omega.{arith}
use lib.Dec.{ltb}
use lib.ListN.{length, get_or, drop, drop_of_length-le}
use borrow.Author.Tests.{lt-ltb, le-ltb, ltb-false}
use Rattle.base_lists.specs.Walk.{at}
use Rattle.tool_trial.specs.Trial.{LARGE, grown, number_from, number_in}

grown-small : (v d : ℕ) → grown v d ≤ LARGE
unfolding grown
grown-small v d = go (ltb LARGE (10 * v + d)) refl
  where
    go : (b : Bool) → ltb LARGE (10 * v + d) ≡ b → cond b LARGE (10 * v + d) ≤ LARGE
    go true e = omega arith
    go false e = ltb-false LARGE (10 * v + d) e

pub no_word : (w : List ℕ) → length w < 1 → None ≡ number_in w
unfolding number_in
no_word w h = rw (lt-ltb (length w) 1 h)

-- v is the number of the first i digits
pub record Read (w : List ℕ) (v i : ℕ) : Type 0 where
  pub some : 1 ≤ length w
  pub within : i ≤ length w
  pub small : v ≤ LARGE
  pub left : number_in w ≡ number_from v (drop i w)

pub read_none : (w : List ℕ) → 1 ≤ length w → Read w 0 0
unfolding number_in
read_none w h = record { some = h; within = omega arith; small = omega arith; left = rw (le-ltb (length w) 1 h) refl }

module _ {w : List ℕ} {v i : ℕ} (r : Read w v i) where
  pub read_low : i < length w → get_or w i 0 < 0x30 → None ≡ number_in w
  unfolding number_from
  read_low h l = sym (r.left ∙ rw (at w i h, lt-ltb (get_or w i 0) 0x30 l) refl)

  pub read-high : i < length w → 0x30 ≤ get_or w i 0 → 0x39 < get_or w i 0 → None ≡ number_in w
  unfolding number_from
  read-high h l g = sym (r.left ∙ rw (at w i h, le-ltb (get_or w i 0) 0x30 l, lt-ltb 0x39 (get_or w i 0) g) refl)

  pub read_more : i < length w → 0x30 ≤ get_or w i 0 → get_or w i 0 ≤ 0x39 → (u : ℕ) → u ≡ grown v (get_or w i 0 - 0x30) → Read w u (i + 1)
  unfolding number_from
  read_more h l g u e = record {
    some = r.some;
    within = omega arith;
    small = rw e (grown-small v (get_or w i 0 - 0x30));
    left = r.left ∙ rw (at w i h, le-ltb (get_or w i 0) 0x30 l, le-ltb 0x39 (get_or w i 0) g, e) refl;
  }

  pub read_all : length w ≤ i → Some v ≡ number_in w
  unfolding number_from
  read_all h = sym (r.left ∙ rw (drop_of_length-le w {i = i} h) refl)
