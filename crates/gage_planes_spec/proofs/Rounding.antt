-- Rounds on a state in planes, one after the other. Assumes nothing.
use Rattle.std.specs.Prelude.{◌≡◌, refl, List, [], ◌∷◌, ◌++◌, ℕ, zero, suc, ◌+◌, ◌-◌, ◌*◌, ◌/◌, ◌%◌, ◌^◌, ◌≤◌, ◌<◌, length, get_or, take}
use Rattle.std.proofs.Common.{sym, ap, ◌∙◌, not-suc-le-zero, zero-mul, one-mul, add-one, arith, length-take-le, take-suc}
use Rattle.std.specs.Int.Bits.{bit_xor}
use Rattle.gage_cells.specs.Cells.{table, substitute}
use Rattle.gage_shuffle.specs.Shuffling.{shuffle}
use Rattle.gage_leaders.proofs.Rule.{length-leaders, leader-below}
use Rattle.gage_spec.specs.Permutation.{MOST-ROUNDS, leaders, turns, permute_by, permute}
use Rattle.gage_spec.specs.States.{length-permute_by}
use Rattle.base_digits.specs.Held.{Held, WORD}
use Rattle.gage_planes_spec.specs.declared.Planes.{Planes}
use Rattle.gage_planes_spec.specs.Planes.{substituted, turned, turned_around, doubled, uppers, lowers}
use Rattle.gage_planes_spec.specs.Columns.{holds-fewer, doubled-holds}
use Rattle.gage_planes_spec.specs.Leading.{first, starts-held, one-held}
use Rattle.gage_planes_spec.proofs.Turning.{substituted-holds, turned-holds, around-holds}
use Rattle.gage_planes_spec.specs.Rounds.{Kept}
use Rattle.gage_planes_spec.specs.Rounding.{Onward}

-- one leader more
turns-snoc : (ls : List ℕ) (l : ℕ) (s : List ℕ) → turns (ls ++ (l ∷ [])) s ≡ substitute table l (shuffle (turns ls s))
unfolding turns
turns-snoc [] l s = refl
turns-snoc (a ∷ ls) l s = turns-snoc ls l (substitute table a (shuffle s))

permute_by-snoc : (ls : List ℕ) (l : ℕ) (s : List ℕ) → 1 ≤ length ls → permute_by (ls ++ (l ∷ [])) s ≡ substitute table l (shuffle (permute_by ls s))
unfolding permute_by
permute_by-snoc [] l s h = absurd (not-suc-le-zero h)
permute_by-snoc (a ∷ ls) l s h = turns-snoc ls l (substitute table a s)

pub one_more : (i : ℕ) (s : List ℕ) → 1 ≤ i → i < MOST-ROUNDS
    → permute_by (take (i + 1) leaders) s ≡ substitute table (get_or leaders i 0) (shuffle (permute_by (take i leaders) s))
one_more i s h g =
    let long : length (take i leaders) ≡ i = length-take-le i leaders (omega (arith, length-leaders)) in
    rw (add-one, take-suc leaders i 0 (omega (arith, length-leaders))) (permute_by-snoc (take i leaders) (get_or leaders i 0) s (omega arith))

pub first_round : (s : List ℕ) → permute_by (take 1 leaders) s ≡ substitute table (get_or leaders 0 0) s
unfolding permute_by turns
first_round s = ap (λ (ls : List ℕ). permute_by ls s) (take-suc leaders 0 0 (omega (arith, length-leaders)))

pub kept-fewer : {f : List ℕ → List ℕ} {n u v : ℕ} {p r : Planes} (w : ℕ) → w ≤ v → Kept f n u v p r → Kept f n u w p r
kept-fewer w l a = record { each = λ s e b h. holds-fewer w l (a.each s e b h) }

-- what a leader's bits put where a state begins, looked up by the leader
pub upper-at : (starts l : ℕ) → l < 4 → get_or (uppers starts) l 0 ≡ l / 2 % 2 * starts
upper-at starts zero h = sym (zero-mul starts)
upper-at starts (suc zero) h = sym (zero-mul starts)
upper-at starts (suc (suc zero)) h = sym (one-mul starts)
upper-at starts (suc (suc (suc zero))) h = sym (one-mul starts)
upper-at starts (suc (suc (suc (suc l)))) h = absurd (omega arith)

pub lower-at : (starts l : ℕ) → l < 4 → get_or (lowers starts) l 0 ≡ l % 2 * starts
lower-at starts zero h = sym (zero-mul starts)
lower-at starts (suc zero) h = sym (one-mul starts)
lower-at starts (suc (suc zero)) h = sym (zero-mul starts)
lower-at starts (suc (suc (suc zero))) h = sym (one-mul starts)
lower-at starts (suc (suc (suc (suc l)))) h = absurd (omega arith)

-- a state of n bytes: at which digits of a word it begins
module _ (n starts : ℕ) (some : 0 < n) (begins : starts ≡ bit_xor (1 * 2 ^ n % 2 ^ 64) 1) where
  beginnings : (v : ℕ) → v ≤ n → n + v ≤ WORD → Held (n + v) starts (λ i. first ((0 + i) % n))
  beginnings v l fits = rw begins (starts-held n v some fits l)

  -- drawn out again
  pub kept-doubled : {f : List ℕ → List ℕ} {u w : ℕ} {p r : Planes} (v m : ℕ) → ((s : List ℕ) → length (f s) ≡ length s) → m ≡ 2 ^ n - 1
      → v ≤ n → n + v ≤ WORD → n ≤ w → Kept f n u w p r → Kept f n u (n + v) p (doubled r m n)
  kept-doubled {f} {u} {w} {p} {r} v m keeps e l fits enough a = record {
    each = λ s long b h.
        let q : length (f s) ≡ n = keeps s ∙ long in
        rw (e, ← q) (doubled-holds v (rw q l) (rw q fits) (rw q (holds-fewer n enough (a.each s long b h))));
  }

  -- the first round
  pub kept-first : (v m l : ℕ) {p : Planes} → l ≡ get_or leaders 0 0 → l < 4 → m ≡ 2 ^ n - 1 → v ≤ n → n + v ≤ WORD
      → Kept (permute_by (take 1 leaders)) n n (n + v) p (substituted (doubled p m n) starts l)
  kept-first v m l {p} led cell e few fits = record {
    each = λ s long b h.
        rw (first_round s, ← led)
        (substituted-holds (n + v) starts l (doubled p m n) s (rw long some) fits cell b (rw long (beginnings v few fits))
        (rw (e, ← long) (doubled-holds v (rw long few) (rw long fits) (rw long h))));
  }

  -- one more
  pub kept_more : {u : ℕ} {p r : Planes} (v l i : ℕ) → 1 ≤ i → i < MOST-ROUNDS → l ≡ get_or leaders i 0 → l < 4 → v ≤ n → n + v ≤ WORD → 7 + (n + v) ≤ WORD
      → Kept (permute_by (take i leaders)) n u (7 + (n + v)) p r → Kept (permute_by (take (i + 1) leaders)) n u (n + v) p (turned r starts l)
  kept_more {u} {p} {r} v l i h g led cell few fits wide a = record {
    each = λ s long b held.
        let x = permute_by (take i leaders) s in
        let q : length x ≡ n = length-permute_by (take i leaders) s ∙ long in
        rw (one_more i s h g, ← led)
        (turned-holds (n + v) starts l r x (rw q some) wide cell (rw q (beginnings v few fits)) (a.each s long b held));
  }

  -- one more, where turns are left; two
  pub kept-turn : {u : ℕ} {p r : Planes} (left l i : ℕ) → 0 < left → 7 * left ≤ n → n + 7 * left ≤ WORD → 1 ≤ i → i < MOST-ROUNDS
      → l ≡ get_or leaders i 0 → l < 4 → Kept (permute_by (take i leaders)) n u (n + 7 * left) p r
      → Kept (permute_by (take (i + 1) leaders)) n u (n + 7 * (left - 1)) p (turned r starts l)
  kept-turn {u} {p} {r} left l i some_left few fits h g led cell a =
      let e : n + 7 * left ≡ 7 + (n + 7 * (left - 1)) = omega arith in
      kept_more (7 * (left - 1)) l i h g led cell (omega arith) (omega arith) (omega arith) (rw e at a)

  pub kept_pair : {u : ℕ} {p r q : Planes} (left a b i : ℕ) → 2 ≤ left → 7 * left ≤ n → n + 7 * left ≤ WORD → 1 ≤ i → i + 1 < MOST-ROUNDS
      → (a ≡ get_or leaders i 0) × (a < 4) → (b ≡ get_or leaders (i + 1) 0) × (b < 4) → q ≡ turned (turned r starts a) starts b
      → Kept (permute_by (take i leaders)) n u (n + 7 * left) p r
      → Kept (permute_by (take (i + 2) leaders)) n u (n + 7 * (left - 2)) p q
  kept_pair left a b i some_left few fits h g la lb e x =
      let j : i + 1 + 1 ≡ i + 2 = omega arith in
      let l : left - 1 - 1 ≡ left - 2 = omega arith in
      rw e
      (rw (j, l) at (kept-turn (left - 1) b (i + 1) (omega arith) (omega arith) (omega arith) (omega arith) g lb.0 lb.1
      (kept-turn left a i (omega arith) few fits h (omega arith) la.0 la.1 x)))

  -- drawn out again for so many turns
  pub kept_again : {u w : ℕ} {p r q : Planes} (i most m : ℕ) → m ≡ 2 ^ n - 1 → 7 * most ≤ n → n + 7 * most ≤ WORD → n ≤ w → q ≡ doubled r m n
      → Kept (permute_by (take i leaders)) n u w p r → Kept (permute_by (take i leaders)) n u (n + 7 * most) p q
  kept_again i most m e few fits enough d a = rw d (kept-doubled (7 * most) m (length-permute_by (take i leaders)) e few fits enough a)

pub onward-none : (n v i : ℕ) (q : Planes) → Onward n v i q v i q
onward-none n v i q = record { from = λ p a. a }

-- a group of turns, for which there is room, and the planes drawn out again
module _ (n starts m most : ℕ) (some : 0 < n) (begins : starts ≡ bit_xor (1 * 2 ^ n % 2 ^ 64) 1) (e : m ≡ 2 ^ n - 1) (enough : 2 ≤ most)
    (few : 7 * most ≤ n) (fits : n + 7 * most ≤ WORD) where
  pub onward-pair : {v j : ℕ} {q r t x : Planes} (a b i : ℕ) → 1 ≤ i → i + 1 < MOST-ROUNDS → (a ≡ get_or leaders i 0) × (a < 4)
      → (b ≡ get_or leaders (i + 1) 0) × (b < 4) → t ≡ turned (turned r starts a) starts b → x ≡ doubled t m n
      → Onward n v j q (n + 7 * most) i r → Onward n v j q (n + 7 * most) (i + 2) x
  onward-pair a b i h g la lb p d o = record {
    from = λ y z.
        kept_again n starts some begins (i + 2) most m e few fits (omega arith) d
        (kept_pair n starts some begins most a b i enough few fits h g la lb p (o.from y z));
  }

  pub onward-four : {v j : ℕ} {q r s t x : Planes} (a b c d i : ℕ) → 4 ≤ most → 1 ≤ i → i + 3 < MOST-ROUNDS → (a ≡ get_or leaders i 0) × (a < 4)
      → (b ≡ get_or leaders (i + 1) 0) × (b < 4) → (c ≡ get_or leaders (i + 2) 0) × (c < 4) → (d ≡ get_or leaders (i + 3) 0) × (d < 4)
      → s ≡ turned (turned r starts a) starts b → t ≡ turned (turned s starts c) starts d → x ≡ doubled t m n
      → Onward n v j q (n + 7 * most) i r → Onward n v j q (n + 7 * most) (i + 4) x
  onward-four a b c d i four h g la lb lc ld p p' e' o =
      let i3 : i + 2 + 1 ≡ i + 3 = omega arith in
      let i4 : i + 2 + 2 ≡ i + 4 = omega arith in
      record {
        from = λ y z.
            kept_again n starts some begins (i + 4) most m e few fits (omega arith) e'
            (rw i4 at (kept_pair n starts some begins (most - 2) c d (i + 2) (omega arith) (omega arith) (omega arith) (omega arith) (omega arith) lc
            (rw i3 ld) p'
            (kept_pair n starts some begins most a b i enough few fits h (omega arith) la lb p (o.from y z))));
      }

-- an entry of a table that is the definition's
pub leader-at : {t : List ℕ} → t ≡ leaders → (i : ℕ) → i < MOST-ROUNDS → (get_or t i 0 ≡ get_or leaders i 0) × (get_or t i 0 < 4)
leader-at e i h = (rw e, rw e (leader-below i h))

-- k rounds are all of them
pub kept-all : {n w : ℕ} {p r : Planes} (i k : ℕ) → Kept (permute_by (take i leaders)) n n w p r → i ≡ k → n ≤ w → Kept (permute k) n n n p r
unfolding permute
kept-all {n} i k a e l = kept-fewer n l (rw e at a)

-- a state of 64 bytes: the first round, and one more
pub around-first : (l : ℕ) {p q : Planes} → l ≡ get_or leaders 0 0 → l < 4 → q ≡ substituted p 1 l → Kept (permute_by (take 1 leaders)) 64 64 64 p q
around-first l {p} led cell e = record {
  each = λ s long b h.
      rw (e, first_round s, ← led) (substituted-holds 64 1 l p s (omega arith) (omega arith) cell b (rw long (one-held 64 64 (omega arith))) h);
}

pub around-more : {v j : ℕ} {q r x : Planes} (l i : ℕ) → 1 ≤ i → i < MOST-ROUNDS → (l ≡ get_or leaders i 0) × (l < 4) → x ≡ turned_around r l
    → Onward 64 v j q 64 i r → Onward 64 v j q 64 (i + 1) x
around-more {r = r} l i h g led e o = record {
  from = λ p a.
      record {
        each = λ s long b held.
            let y = permute_by (take i leaders) s in
            let q : length y ≡ 64 = length-permute_by (take i leaders) s ∙ long in
            rw (e, one_more i s h g, ← led.0) (around-holds y q l r led.1 ((o.from p a).each s long b held));
      };
}

pub around-four : {v j : ℕ} {q r x : Planes} (a b c d i : ℕ) → 1 ≤ i → i + 3 < MOST-ROUNDS → (a ≡ get_or leaders i 0) × (a < 4)
    → (b ≡ get_or leaders (i + 1) 0) × (b < 4) → (c ≡ get_or leaders (i + 2) 0) × (c < 4) → (d ≡ get_or leaders (i + 3) 0) × (d < 4)
    → x ≡ turned_around (turned_around (turned_around (turned_around r a) b) c) d → Onward 64 v j q 64 i r → Onward 64 v j q 64 (i + 4) x
around-four a b c d i h g la lb lc ld e o =
    let i2 : i + 1 + 1 ≡ i + 2 = omega arith in
    let i3 : i + 2 + 1 ≡ i + 3 = omega arith in
    let i4 : i + 3 + 1 ≡ i + 4 = omega arith in
    let first = around-more a i h (omega arith) la refl o in
    let second = rw i2 at (around-more b (i + 1) (omega arith) (omega arith) lb refl first) in
    let third = rw i3 at (around-more c (i + 2) (omega arith) (omega arith) lc refl second) in
    rw i4 at (around-more d (i + 3) (omega arith) g ld e third)
