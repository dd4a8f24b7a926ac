-- Nonces kept in two lists of numbers: to look for the numbers of a nonce there is to look for the nonce among those kept. Assumes nothing.
use Rattle.std.specs.Prelude.{◌≡◌, ℕ, zero, suc, ◌+◌, ◌<◌, length, get_or, set, take, drop}
use Rattle.std.proofs.Math.Path.{refl}
use Rattle.std.proofs.Common.{sym, ap, ◌∙◌, arith, length-append, take-suc-set}
use mathlib.Core.List.{List, [], ◌∷◌, ◌++◌, map, head-eq_of_cons-eq, tail-eq_of_cons-eq}
use Rattle.std.proofs.Math.Numerals.{add-one}
use borrow.Author.Tests.{lt-ltb}
use Rattle.read_nonce.specs.Sizes.{Twelve}
use Rattle.accept_spec.specs.Nonces.{met}
use Rattle.accept_nonces.specs.Words.{high, low, same-words}
use Rattle.accept_nonces.specs.Seen.{pair_at, pair_in}

-- each is twelve bytes
abbrev pub AllTwelve : List (List ℕ) → Type 0
AllTwelve [] = Unit {0}
AllTwelve (m ∷ l) = Twelve m × AllTwelve l

pub twelve-last : (l : List (List ℕ)) (n : List ℕ) → AllTwelve l → Twelve n → AllTwelve (l ++ (n ∷ []))
twelve-last [] n a t = (t, tt)
twelve-last (m ∷ l) n a t = (a.0, twelve-last l n a.1 t)

-- the first numbers of the lists are those of the nonces, in their order
pub record Kept (seen : List (List ℕ)) (highs lows : List ℕ) (n : ℕ) : Type 0 where
  pub many : length seen ≡ n
  pub twelve : AllTwelve seen
  pub high-are : take n highs ≡ map high seen
  pub low-are : take n lows ≡ map low seen

pub kept-none : (highs lows : List ℕ) → Kept [] highs lows 0
kept-none highs lows = record { many = refl; twelve = tt; high-are = refl; low-are = refl }

map_last : (f : List ℕ → ℕ) (l : List (List ℕ)) (n : List ℕ) → map f (l ++ (n ∷ [])) ≡ map f l ++ (f n ∷ [])
map_last f [] n = refl
map_last f (m ∷ l) n = ap (λ (y : List ℕ). f m ∷ y) (map_last f l n)

pub kept_more : {seen : List (List ℕ)} {highs lows : List ℕ} {n : ℕ} (m : List ℕ) (x y : ℕ) → Kept seen highs lows n → Twelve m
    → n < length highs → n < length lows → x ≡ high m → y ≡ low m → Kept (seen ++ (m ∷ [])) (set highs n x) (set lows n y) (n + 1)
kept_more {seen} {highs} {lows} {n} m x y k t h g p q = record {
  many = length-append seen (m ∷ []) ∙ omega (arith, k.many);
  twelve = twelve-last seen m k.twelve t;
  high-are = rw (add-one, take-suc-set highs n x h, k.high-are, p) (sym (map_last high seen m));
  low-are = rw (add-one, take-suc-set lows n y g, k.low-are, q) (sym (map_last low seen m));
}

-- what is taken from a place on, one at a time
record Front (l : List ℕ) (i x : ℕ) (rest : List ℕ) (n : ℕ) : Type 0 where
  inside : i < length l
  first : get_or l i 0 ≡ x
  behind : take n (drop (suc i) l) ≡ rest

front : (l : List ℕ) (i n x : ℕ) (rest : List ℕ) → take (suc n) (drop i l) ≡ x ∷ rest → Front l i x rest n
front [] zero n x rest e = absurd (let z : ◌≡◌ {A = ℕ} 0 1 = cc e in omega arith)
front [] (suc i) n x rest e = absurd (let z : ◌≡◌ {A = ℕ} 0 1 = cc e in omega arith)
front (a ∷ l) zero n x rest e = record { inside = omega arith; first = head-eq_of_cons-eq e; behind = tail-eq_of_cons-eq e }
front (a ∷ l) (suc i) n x rest e =
    let f = front l i n x rest e in
    record { inside = omega (arith, f.inside); first = f.first; behind = f.behind }

module _ (highs lows : List ℕ) (n : List ℕ) (t : Twelve n) where
  from_place : (seen : List (List ℕ)) (i : ℕ) → AllTwelve seen → take (length seen) (drop i highs) ≡ map high seen
      → take (length seen) (drop i lows) ≡ map low seen
      → pair_in highs lows (high n) (low n) i (length seen) ≡ met seen n
  unfolding pair_in pair_at met
  from_place [] i a p q = refl
  from_place (m ∷ seen) i a p q =
      let f = front highs i (length seen) (high m) (map high seen) p in
      let g = front lows i (length seen) (low m) (map low seen) q in
      let on = from_place seen (i + 1) a.1 (rw add-one f.behind) (rw add-one g.behind) in
      rw (lt-ltb i (length highs) f.inside, lt-ltb i (length lows) g.inside, f.first, g.first, same-words m n a.0 t, on)

  pub kept-met : {seen : List (List ℕ)} {k : ℕ} → Kept seen highs lows k → pair_in highs lows (high n) (low n) 0 k ≡ met seen n
  kept-met {seen} {k} kept =
      let m : length seen ≡ k = kept.many in
      rw (← m) (from_place seen 0 kept.twelve (rw (← m) at kept.high-are) (rw (← m) at kept.low-are))
