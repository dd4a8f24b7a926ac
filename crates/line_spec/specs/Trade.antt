-- The trade's line as a statement on lists (order W2): at least one digit, and transit symbols not at all, or exactly twice with exactly
-- nine digits and no other byte between. Assumes nothing.
use Rattle.std.specs.Prelude.{◌≡◌, refl, Bool, true, false, cond, List, [], ◌∷◌, ◌++◌, ℕ, suc, ◌≤◌, eqb, length}
use Rattle.std.proofs.Common.{sym, ap, ◌∙◌, arith, eqb-true}
use Rattle.base_lists.specs.Never.{never}
use Rattle.base_lists.specs.Free.{Free}
use Rattle.line_spec.specs.Lines.{first_digit, last_digit, transit, is_digit, is_transit, any_digit, all_digits}
use Rattle.line_spec.specs.Lines.{transits, before, behind, between, nine, transits_right, is_trade}
use Rattle.line_spec.specs.Bytewise.{is_digit_lem, digit-is, is-transit, transit-is, not-transit, transit-apart, digit-apart}
use Rattle.line_spec.specs.Bytewise.{transits-more, before-none, behind-all, transits-same, before_more, behind-same}

abbrev pub Digit : ℕ → Type 0
Digit b = (first_digit ≤ b) × (b ≤ last_digit)

-- digits and no other byte
abbrev pub Digits : List ℕ → Type 0
Digits [] = Unit {0}
Digits (b ∷ s) = Digit b × Digits s

-- at least one digit
pub data HasDigit : List ℕ → Type 0 where
  here : {b : ℕ} {s : List ℕ} → Digit b → HasDigit (b ∷ s)
  later : {b : ℕ} {s : List ℕ} → HasDigit s → HasDigit (b ∷ s)

-- no transit symbol and at least one digit; or bytes without a transit symbol, one, nine digits, one, and bytes without one
pub data TradeLine (s : List ℕ) : Type 0 where
  no-transit : Free transit s → HasDigit s → TradeLine s
  two-transits : (front middle back : List ℕ) → s ≡ front ++ (transit ∷ (middle ++ (transit ∷ back))) → Free transit front → Free transit back
      → length middle ≡ nine → Digits middle → TradeLine s

the-transit : is_transit transit ≡ true
the-transit = transit-is transit refl

-- the tests of digits say what the statements say
has-digit : (s : List ℕ) → any_digit s ≡ true → HasDigit s
unfolding any_digit
has-digit [] e = never e
has-digit (b ∷ s) e = go (is_digit b) refl (has-digit s) e
  where
    go : (d : Bool) → is_digit b ≡ d → (any_digit s ≡ true → HasDigit s) → cond d true (any_digit s) ≡ true → HasDigit (b ∷ s)
    go true p h e = here (is_digit_lem b p)
    go false p h e = later (h e)

digit-has : (s : List ℕ) → HasDigit s → any_digit s ≡ true
unfolding any_digit
digit-has [] x' = elim x' [ ]
digit-has (b ∷ s) (here d) = rw (digit-is b d.0 d.1)
digit-has (b ∷ s) (later h) = go (is_digit b) (digit-has s h)
  where
    go : (d : Bool) → any_digit s ≡ true → cond d true (any_digit s) ≡ true
    go true e = refl
    go false e = e

pub are-digits : (s : List ℕ) → all_digits s ≡ true → Digits s
unfolding all_digits
are-digits [] e = tt
are-digits (b ∷ s) e = go (is_digit b) refl (are-digits s) e
  where
    go : (d : Bool) → is_digit b ≡ d → (all_digits s ≡ true → Digits s) → cond d (all_digits s) false ≡ true → Digits (b ∷ s)
    go true p h e = (is_digit_lem b p, h e)
    go false p h e = never e

pub digits_are : (s : List ℕ) → Digits s → all_digits s ≡ true
unfolding all_digits
digits_are [] d = refl
digits_are (b ∷ s) d = rw (digit-is b d.0.0 d.0.1) (digits_are s d.1)

-- digits hold no transit symbol
pub digits-free : (s : List ℕ) → Digits s → Free transit s
digits-free [] d = tt
digits-free (b ∷ s) d = (not-transit b (digit-apart b (digit-is b d.0.0 d.0.1)), digits-free s d.1)

-- no transit symbol is counted exactly where none stands
none_free : (s : List ℕ) → transits s ≡ 0 → Free transit s
none_free [] e = tt
none_free (b ∷ s) e = go (is_transit b) refl (none_free s)
  where
    go : (t : Bool) → is_transit b ≡ t → (transits s ≡ 0 → Free transit s) → Free transit (b ∷ s)
    go true p h = absurd (let z : suc (transits s) ≡ 0 = sym (transits-more b s p) ∙ e in omega arith)
    go false p h = (not-transit b p, h (sym (transits-same b s p) ∙ e))

free-none : (s : List ℕ) → Free transit s → transits s ≡ 0
unfolding transits
free-none [] f = refl
free-none (b ∷ s) f = rw (transit-apart b f.0) (free-none s f.1)

-- a line with a transit symbol is cut at the first
record Cut (s : List ℕ) : Type 0 where
  whole : s ≡ before s ++ (transit ∷ behind s)
  first : Free transit (before s)
  rest : transits s ≡ suc (transits (behind s))

cut : (s : List ℕ) → (transits s ≡ 0 → ⊥) → Cut s
unfolding transits
cut [] n = absurd (n refl)
cut (b ∷ s) n = go (is_transit b) refl (cut s)
  where
    go : (t : Bool) → is_transit b ≡ t → ((transits s ≡ 0 → ⊥) → Cut s) → Cut (b ∷ s)
    go true p h = record {
      whole = rw (before-none b s p, behind-all b s p, is-transit b p);
      first = rw (before-none b s p) tt;
      rest = rw (behind-all b s p) (transits-more b s p);
    }
    go false p h =
        let c = h (λ e. n (transits-same b s p ∙ e)) in
        record {
          whole = rw (before_more b s p, behind-same b s p) (ap (λ (x : List ℕ). b ∷ x) c.whole);
          first = rw (before_more b s p) (not-transit b p, c.first);
          rest = rw (behind-same b s p) (transits-same b s p ∙ c.rest);
        }

-- a line so cut, told from its parts
module _ (r : List ℕ) where
  at_first : (f : List ℕ) → Free transit f → (before (f ++ (transit ∷ r)) ≡ f) × (behind (f ++ (transit ∷ r)) ≡ r)
  at_first [] h = (before-none transit r the-transit, behind-all transit r the-transit)
  at_first (b ∷ f) h =
      let i = at_first f h.1 in
      let t = transit-apart b h.0 in
      let s = f ++ (transit ∷ r) in
      (before_more b s t ∙ ap (λ (x : List ℕ). b ∷ x) i.0, behind-same b s t ∙ i.1)

  one_more : (f : List ℕ) → Free transit f → transits (f ++ (transit ∷ r)) ≡ suc (transits r)
  one_more [] h = transits-more transit r the-transit
  one_more (b ∷ f) h = transits-same b (f ++ (transit ∷ r)) (transit-apart b h.0) ∙ one_more f h.1

-- digits anywhere in a line are its digits
digit-front : (s t : List ℕ) → HasDigit t → HasDigit (s ++ t)
digit-front [] t h = h
digit-front (b ∷ s) t h = later (digit-front s t h)

digit-first : (d t : List ℕ) → Digits d → length d ≡ nine → HasDigit (d ++ t)
digit-first [] t h e = absurd (omega (arith, e))
digit-first (b ∷ d) t h e = here h.0

-- a line put together so has two transit symbols, a digit, and between them the nine
two-right : (f d e : List ℕ) → Free transit f → Free transit e → length d ≡ nine → Digits d
    → is_trade (f ++ (transit ∷ (d ++ (transit ∷ e)))) ≡ true
unfolding is_trade transits_right
two-right f d e x y n g =
    let r = d ++ (transit ∷ e) in
    let any : any_digit (f ++ (transit ∷ r)) ≡ true =
    digit-has (f ++ (transit ∷ r)) (digit-front f (transit ∷ r) (later (digit-first d (transit ∷ e) g n))) in
    let two : transits (f ++ (transit ∷ r)) ≡ 2 =
    one_more r f x ∙ ap suc (one_more e d (digits-free d g) ∙ ap suc (free-none e y)) in
    let middle : between (f ++ (transit ∷ r)) ≡ d = ap before (at_first r f x).1 ∙ (at_first e d (digits-free d g)).0 in
    rw (any, two, middle, n) (digits_are d g)

-- the rule's test says what the statement says
pub trade-is : (s : List ℕ) → TradeLine s → is_trade s ≡ true
unfolding is_trade transits_right
trade-is s (no-transit f h) = rw (digit-has s h, free-none s f)
trade-is s (two-transits f d e w x y n g) = ap is_trade w ∙ two-right f d e x y n g

-- two transit symbols, with the bytes before, between and behind them
two-found : (s : List ℕ) → transits s ≡ 2 → length (between s) ≡ nine → all_digits (between s) ≡ true → TradeLine s
two-found s n l d =
    let c = cut s (λ h. omega (arith, h, n)) in
    let one : transits (behind s) ≡ 1 = omega (arith, n, c.rest) in
    let k = cut (behind s) (λ h. omega (arith, h, one)) in
    let none : transits (behind (behind s)) ≡ 0 = omega (arith, one, k.rest) in
    two-transits (before s) (between s) (behind (behind s)) (c.whole ∙ ap (λ (x : List ℕ). before s ++ (transit ∷ x)) k.whole) c.first
    (none_free (behind (behind s)) none) l (are-digits (between s) d)

pub is-trade : (s : List ℕ) → is_trade s ≡ true → TradeLine s
unfolding is_trade transits_right
is-trade s = go (any_digit s) refl (eqb (transits s) 0) refl (eqb (transits s) 2) refl (eqb (length (between s)) nine) refl
  where
    go : (t : Bool) → any_digit s ≡ t → (u : Bool) → eqb (transits s) 0 ≡ u → (v : Bool) → eqb (transits s) 2 ≡ v
        → (w : Bool) → eqb (length (between s)) nine ≡ w
        → cond t (cond u true (cond v (cond w (all_digits (between s)) false) false)) false ≡ true → TradeLine s
    go true p true q v r w z e = no-transit (none_free s (eqb-true (transits s) 0 q)) (has-digit s p)
    go true p false q true r true z e = two-found s (eqb-true (transits s) 2 r) (eqb-true (length (between s)) nine z) e
    go true p false q true r false z e = never e
    go true p false q false r w z e = never e
    go false p u q v r w z e = never e
