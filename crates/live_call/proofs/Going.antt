-- Taking a piece in: what was taken so far and what is left of it come to the whole. Assumes nothing.
use mathlib.Core.Path.{◌≡◌, sym, ap, ◌∙◌}
use mathlib.Core.Bool.{true, false}
use mathlib.Core.List.{List}
use Prim.Native.Nat.{ℕ, ◌+◌, ◌-◌, ◌≤◌, ◌<◌}
use native.Mathlib.Omega.{arith}
use lib.ListN.{length, get_or, drop, drop_of_length-le}
use borrow.Author.Tests.{eq-eqb, ne_eqb}
use Rattle.base_lists.specs.Walk.{at}
use Rattle.frame_stuff_spec.specs.Stuffing.{mark, longest_stretch}
use Rattle.read_stretch.specs.Stretches.{span}
use Rattle.live_spec.specs.declared.Numbers.{Numbers}
use Rattle.live_spec.specs.Taking.{possible, closes, behind_mark, behind_byte, kept, Taken, taken, more, taken_in}
use Rattle.live_spec.proofs.Pieces.{length-kept}
use Rattle.live_spec.specs.Steps.{most_bytes}
use Rattle.live_call.specs.declared.Taking.{Taking}
use Rattle.live_call.specs.Parts.{taken_by}
use Rattle.live_call.proofs.Numbers.{order}

more-none : (t : Taken) → t ≡ more 0 t
more-none t = let z : t.took ≡ 0 + t.took = omega arith in ap (λ (k : ℕ). taken t.behind t.window k t.place) z

more-one : (i : ℕ) (t : Taken) → more i (more 1 t) ≡ more (i + 1) t
more-one i t = let z : i + (1 + t.took) ≡ i + 1 + t.took = omega arith in ap (λ (k : ℕ). taken t.behind t.window k t.place) z

-- i bytes of the piece p are taken in, from the numbers n and the window w
pub record Going (n : Numbers) (w p window : List ℕ) (seen : Numbers) (i : ℕ) : Type 0 where
  pub inside : i ≤ length p
  pub room : length window ≡ longest_stretch
  pub order_is : seen.first ≤ seen.received
  pub few : seen.received + (length p - i) ≤ most_bytes
  pub left : taken_in n w p ≡ more i (taken_in seen window (drop i p))

pub going-none : (n : Numbers) (w p : List ℕ) → length w ≡ longest_stretch → possible n ≡ true → n.received + length p ≤ most_bytes → Going n w p w n 0
going-none n w p r e h = record {
  inside = omega arith;
  room = r;
  order_is = order n e;
  few = omega arith;
  left = more-none (taken_in n w p);
}

-- what the function returns
abbrev pub Shows : Taken → Taking → List ℕ → Type 0
Shows t r window = (r ≡ taken_by t) × ((r.first ≤ r.closing) × (window ≡ t.window))

module _ {n : Numbers} {w p window : List ℕ} {seen : Numbers} {i : ℕ} (g : Going n w p window seen i) where
  pub going-all : length p ≤ i → Shows (taken_in n w p) (record { numbers = seen; took = length p; first = seen.received; closing = seen.received }) window
  unfolding taken_in
  going-all h =
      let z : i + 0 ≡ length p = omega (arith, g.inside) in
      let e : taken_in n w p ≡ taken seen window (length p) (span seen.received seen.received) = g.left ∙ rw (drop_of_length-le p {i = i} h, z) in
      (ap taken_by (sym e), (omega arith, ap (λ (t : Taken). t.window) (sym e)))

  module _ (h : i < length p) where
    -- the numbers behind the next byte can be counted
    pub going-few : seen.received < most_bytes
    going-few = omega (arith, g.few)

    module _ (m : get_or p i 0 ≡ mark) where
      pub going-closed : closes seen ≡ true → (r : Numbers) → r ≡ behind_mark seen
          → Shows (taken_in n w p) (record { numbers = r; took = i + 1; first = seen.first; closing = seen.received }) window
      unfolding taken_in
      going-closed c r q =
          let e : taken_in n w p ≡ taken r window (i + 1) (span seen.first seen.received) =
          g.left ∙ rw (at p i h, eq-eqb (get_or p i 0) mark m, c, q) in
          (ap taken_by (sym e), (g.order_is, ap (λ (t : Taken). t.window) (sym e)))

      pub going-mark : closes seen ≡ false → (r : Numbers) → r ≡ behind_mark seen → Going n w p window r (i + 1)
      unfolding taken_in behind_mark
      going-mark c r q = rw q (record {
        inside = omega arith;
        room = g.room;
        order_is = omega arith;
        few = omega (arith, g.few);
        left = g.left ∙ rw (at p i h, eq-eqb (get_or p i 0) mark m, c) (more-one i (taken_in (behind_mark seen) window (drop (i + 1) p)));
      })

    pub going-byte : (get_or p i 0 ≡ mark → ⊥) → (r : Numbers) → r ≡ behind_byte seen → (v : List ℕ) → v ≡ kept seen window (get_or p i 0)
        → Going n w p v r (i + 1)
    unfolding taken_in
    going-byte m r q v k = rw (q, k) (record {
      inside = omega arith;
      room = length-kept seen window (get_or p i 0) ∙ g.room;
      order_is = omega (arith, g.order_is);
      few = omega (arith, g.few);
      left = g.left ∙ rw (at p i h, ne_eqb (get_or p i 0) mark m) (more-one i (taken_in (behind_byte seen) (kept seen window (get_or p i 0)) (drop (i + 1) p)));
    })
