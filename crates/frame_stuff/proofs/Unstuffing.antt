-- Unstuffing a byte at a time, and what the loop that writes a body keeps. Assumes nothing.
use mathlib.Core.Path.{◌≡◌, refl, sym, ap, ◌∙◌}
use mathlib.Core.List.{List, [], ◌∷◌}
use mathlib.Core.Bool.{Bool, true, false, cond}
use Prim.Native.Nat.{ℕ, suc, ◌+◌, ◌≤◌, ◌<◌}
use native.Mathlib.Omega.{arith}
use native.Mathlib.Numerals.{add-one}
use lib.ListN.{length, get_or, take, drop, set, length-drop, length-take, drop_of_length-le}
use lib.Seq.{take-suc, take_all, drop-cons, length-take-le}
use borrow.Author.Tests.{eq-eqb, ne_eqb}
use Rattle.base_lists.specs.Buffers.{over}
use Rattle.base_lists.specs.Over.{over-more, over-length}
use Rattle.base_lists.specs.Walk.{at}
use Rattle.frame_stuff_spec.specs.Stuffing.{escape, meant, unstuffed, unescaped}

-- what is left of the body, outside an escape or inside one
abbrev left : Bool → List ℕ → List ℕ
left e s = cond e (unescaped s) (unstuffed s)

-- a list whose rest from k on starts with x
record Heads (u : List ℕ) (k x : ℕ) (r : List ℕ) : Type 0 where
  below : k < length u
  here : get_or u k 0 ≡ x
  after : drop (k + 1) u ≡ r

heads : (u : List ℕ) (k x : ℕ) (r : List ℕ) → drop k u ≡ x ∷ r → Heads u k x r
heads u k x r e =
    let l : k < length u = omega (arith, length-drop k u, ap length e) in
    let f : get_or u k 0 ∷ drop (suc k) u ≡ x ∷ r = sym (drop-cons u k 0 l) ∙ e in
    record { below = l; here = cc; after = rw add-one (cc) }

left-none : (e : Bool) → left e [] ≡ []
unfolding unstuffed
left-none true = refl
left-none false = refl

-- after i bytes of the stretch the first k bytes of the body are written, and the rest of the body is what is left
pub record Unwound (s o out : List ℕ) (i k : ℕ) (e : Bool) : Type 0 where
  pub in-stretch : i ≤ length s
  pub in_body : k ≤ length (unstuffed s)
  pub rest : drop k (unstuffed s) ≡ left e (drop i s)
  pub put : out ≡ over (take k (unstuffed s)) o

module _ (s o : List ℕ) (room : length (unstuffed s) ≤ length o) where
  pub unwound-length : {out : List ℕ} {i k : ℕ} {e : Bool} → Unwound s o out i k e → length out ≡ length o
  unwound-length {k = k} h = ap length h.put ∙ over-length (take k (unstuffed s)) o (omega (arith, length-take k (unstuffed s)))

  -- a byte x of the body more
  pub unwound-more : (out : List ℕ) (i k x : ℕ) (e : Bool) → Unwound s o out i k e → i < length s
      → left e (drop i s) ≡ x ∷ unstuffed (drop (i + 1) s) → Unwound s o (set out k x) (i + 1) (k + 1) false
  unwound-more out i k x e h l f =
      let g = heads (unstuffed s) k x (unstuffed (drop (i + 1) s)) (h.rest ∙ f) in
      let n : length (take k (unstuffed s)) ≡ k = length-take-le k (unstuffed s) h.in_body in
      record {
        in-stretch = omega arith;
        in_body = omega (arith, g.below);
        rest = g.after;
        put =
            rw (add-one, take-suc (unstuffed s) k 0 g.below, g.here, h.put)
            (ap (λ (j : ℕ). set (over (take k (unstuffed s)) o) j x) (sym n)
            ∙ over-more (take k (unstuffed s)) (x ∷ []) o (omega (arith, g.below)));
      }

  pub fits : (out : List ℕ) (i k x : ℕ) (e : Bool) → Unwound s o out i k e
      → left e (drop i s) ≡ x ∷ unstuffed (drop (i + 1) s) → k < length out
  fits out i k x e h f = omega (arith, (heads (unstuffed s) k x (unstuffed (drop (i + 1) s)) (h.rest ∙ f)).below, unwound-length h)

  -- an escape opens
  pub unwound-open : (out : List ℕ) (i k : ℕ) (e : Bool) → Unwound s o out i k e → i < length s
      → left e (drop i s) ≡ unescaped (drop (i + 1) s) → Unwound s o out (i + 1) k true
  unwound-open out i k e h l f = record { in-stretch = omega arith; in_body = h.in_body; rest = h.rest ∙ f; put = h.put }

  pub unwound-all : (out : List ℕ) (i k : ℕ) (e : Bool) → Unwound s o out i k e → length s ≤ i → out ≡ over (unstuffed s) o
  unwound-all out i k e h l =
      let d : drop k (unstuffed s) ≡ [] = h.rest ∙ rw (drop_of_length-le s {i = i} l) (left-none e) in
      let n : length (unstuffed s) ≤ k = omega (arith, ap length d, length-drop k (unstuffed s)) in
      h.put ∙ ap (λ (w : List ℕ). over w o) (take_all k (unstuffed s) n)

-- the definition a byte at a time
module _ (s : List ℕ) (i : ℕ) (l : i < length s) where
  pub inside : (e : Bool) → e ≡ true → left e (drop i s) ≡ meant (get_or s i 0) ∷ unstuffed (drop (i + 1) s)
  unfolding unstuffed
  inside e t = rw (t, at s i l)

  pub opening : (e : Bool) → e ≡ false → get_or s i 0 ≡ escape → left e (drop i s) ≡ unescaped (drop (i + 1) s)
  unfolding unstuffed
  opening e t b = rw (t, at s i l, eq-eqb (get_or s i 0) escape b)

  pub plainly : (e : Bool) → e ≡ false → (get_or s i 0 ≡ escape → ⊥) → left e (drop i s) ≡ get_or s i 0 ∷ unstuffed (drop (i + 1) s)
  unfolding unstuffed
  plainly e t b = rw (t, at s i l, ne_eqb (get_or s i 0) escape b)
