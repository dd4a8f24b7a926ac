-- Judging the stretches of a stream one after the other: what has been judged so far are lines whose nonces are kept, and what is left decides.
-- Assumes nothing.
use Rattle.std.specs.Prelude.{Err}
use mathlib.Core.Path.{◌≡◌, refl, sym, ap, ap₂, ◌∙◌}
use mathlib.Core.Bool.{Bool, true, false}
use mathlib.Core.List.{List, [], ◌∷◌, ◌++◌}
use Prim.Native.Nat.{ℕ, ◌+◌, ◌-◌, ◌≤◌, ◌<◌}
use native.Mathlib.Omega.{arith}
use lib.ListN.{length, set, replicate, length-set, length-replicate}
use borrow.Author.Tests.{eq-eqb, ne_eqb}
use Rattle.base_lists.specs.Below.{Below, below-take, below-drop}
use Rattle.read_stretch.specs.declared.Span.{Span}
use Rattle.read_stretch.specs.Stretches.{bytes_at, next_span, next_stretch}
use Rattle.read_stretch.specs.Places.{Found}
use Rattle.read_spec.specs.Judged.{Judged, number_in}
use Rattle.read_readings.specs.Readings.{Reading, reading, readings}
use Rattle.read_nonce.specs.Nonces.{nonce_of}
use Rattle.read_nonce.specs.Sizes.{nonce-twelve}
use Rattle.accept_spec.specs.declared.AcceptFault.TheVariants as answer-is
use Rattle.accept_spec.specs.Nonces.{met}
use Rattle.accept_spec.specs.Accepting.{most_stretches, at, yes, accept_from, stretches_in}
use Rattle.accept_spec.specs.Readings.{counted}
use Rattle.accept_nonces.specs.Words.{high, low}
use Rattle.accept_nonces.specs.Seen.{pair_in}
use Rattle.accept_nonces.specs.Kept.{Kept, kept-none, kept_more, kept-met}
use Rattle.accept_call.proofs.Counting.{one_left, some_left}

-- n stretches up to a place are lines
pub record Going (judge : List ℕ → Judged) (s : List ℕ) (all : ℕ) (highs lows : List ℕ) (from n : ℕ) : Type 0 where
  pub seen : List (List ℕ)
  pub kept : Kept seen highs lows n
  pub high-room : length highs ≡ most_stretches
  pub low-room : length lows ≡ most_stretches
  pub many : n + length (readings judge s from) ≡ all
  pub left : accept_from s [] (readings judge s 0) ≡ accept_from s seen (readings judge s from)

pub going-none : (judge : List ℕ → Judged) (s : List ℕ) (all : ℕ) → all ≡ stretches_in s → Going judge s all (replicate most_stretches 0)
    (replicate most_stretches 0) 0 0
going-none judge s all e = record {
  seen = [];
  kept = kept-none (replicate most_stretches 0) (replicate most_stretches 0);
  high-room = length-replicate {A = ℕ} most_stretches 0;
  low-room = length-replicate {A = ℕ} most_stretches 0;
  many = omega (arith, counted judge s, e);
  left = refl;
}

module _ {judge : List ℕ → Judged} {s : List ℕ} {all : ℕ} {highs lows : List ℕ} {from n : ℕ} (g : Going judge s all highs lows from n) where
  -- all of them are
  pub going-all : all ≤ n → yes s ≡ accept_from s [] (readings judge s 0)
  unfolding accept_from
  going-all h = sym (g.left ∙ ap (accept_from s g.seen) (nothing (readings judge s from) (omega (arith, g.many))))
    where
      nothing : (l : List Reading) → length l ≡ 0 → l ≡ []
      nothing [] e = refl
      nothing (r ∷ l) e = absurd (omega arith)

  module _ (h : n < all) (p : Span) (e : p ≡ next_span s from) where
    differ : p.first ≡ p.closing → ⊥
    differ = some_left judge s from (all - n) (omega (arith, g.many)) (omega arith) p e

    found : Found s from p
    found = (one_left judge s from p e differ).0

    pub going-order : p.first ≤ p.closing
    going-order = omega (arith, found.stretch.some)

    pub going-inside : p.closing ≤ length s
    going-inside = omega (arith, found.stretch.ends)

    -- the stretch that is judged
    this : Reading
    this = reading p (judge (bytes_at s p))

    next-is : readings judge s from ≡ this ∷ readings judge s p.closing
    unfolding this next_stretch
    next-is = (one_left judge s from p e differ).1 ∙ rw (← e)

    now-left : accept_from s [] (readings judge s 0) ≡ accept_from s g.seen (this ∷ readings judge s p.closing)
    now-left = g.left ∙ ap (accept_from s g.seen) next-is

    module _ (number : ℕ) (number_is : number ≡ number_in (judge (bytes_at s p))) where
      pub going-refused : (number ≡ 0 → ⊥) → at p (Err (answer-is.Refused number)) ≡ accept_from s [] (readings judge s 0)
      unfolding accept_from this
      going-refused d = sym (now-left ∙ rw (← number_is, ne_eqb number 0 d))

      module _ (line : number ≡ 0) (bytes : Below 256 s) (x y : ℕ) (x-is : x ≡ high (nonce_of (bytes_at s p))) (y-is : y ≡ low (nonce_of (bytes_at s p)))
          (r : Bool) (r-is : r ≡ pair_in highs lows x y 0 n) where
        met-is : r ≡ met g.seen (nonce_of (bytes_at s p))
        met-is =
            r-is ∙ ap₂ (λ (u v : ℕ). pair_in highs lows u v 0 n) x-is y-is
            ∙ kept-met highs lows (nonce_of (bytes_at s p)) (nonce-twelve (bytes_at s p) (below-take 256 (p.closing - p.first) _
            (below-drop 256 p.first s bytes))) g.kept

        pub going-repeated : r ≡ true → at p (Err answer-is.Repeated) ≡ accept_from s [] (readings judge s 0)
        unfolding accept_from this
        going-repeated t = sym (now-left ∙ rw (← number_is, eq-eqb number 0 line, ← met-is, t))

        pub going_more : r ≡ false → all ≤ most_stretches → Going judge s all (set highs n x) (set lows n y) p.closing (n + 1)
        unfolding accept_from this
        going_more t few =
            let m = nonce_of (bytes_at s p) in
            let twelve = nonce-twelve (bytes_at s p) (below-take 256 (p.closing - p.first) _ (below-drop 256 p.first s bytes)) in
            let hr : length highs ≡ most_stretches = g.high-room in
            let lr : length lows ≡ most_stretches = g.low-room in
            record {
              seen = g.seen ++ (m ∷ []);
              kept = kept_more m x y g.kept twelve (omega arith) (omega arith) x-is y-is;
              high-room = length-set highs n x ∙ hr;
              low-room = length-set lows n y ∙ lr;
              many = omega (arith, g.many, ap length next-is);
              left = now-left ∙ rw (← number_is, eq-eqb number 0 line, ← met-is, t);
            }
