-- The rule of a line in one pass over its bytes, as `judge_line` goes, and that it finds what the rule says. Assumes nothing.
use Rattle.std.specs.Prelude.{◌≡◌, Bool, not, cond, List, [], ◌∷◌, ltb, Ok, Err, Result, ⊤}
use Rattle.std.proofs.Math.Path.{refl}
use Rattle.std.proofs.Common.{sym, ap, ◌∙◌}
use Rattle.std.proofs.Math.Bool.{true, false}
use Prim.Native.Nat.{ℕ, suc, ◌+◌}
use native.Mathlib.Omega.{arith}
use Rattle.std.proofs.Math.Dec.{eqb}
use Rattle.std.proofs.Math.ListN.{length}
use borrow.Author.Tests.{eqb-true, eqb-false, eq-eqb, ne_eqb, ltb-false}
use Rattle.base_lists.specs.Never.{never}
use Rattle.line_spec.specs.declared.TradeFault.{TradeFault}
use Rattle.line_spec.specs.declared.TradeFault.TheVariants.{Unlisted, Trade}
use Rattle.line_judge.specs.declared.Met.{Met}
use Rattle.line_judge.specs.declared.Met.TheVariants.{Nothing, Digit, Inside, Closed, Broken}
use Rattle.line_spec.specs.Lines.{is_listed, is_digit, is_transit, nine, all_listed, any_digit, all_digits, transits, before, transits_right, is_trade, line_rule}
use Rattle.line_spec.specs.Bytewise.{transits-more, before-none, behind-all, transits-same, before_more, behind-same}
use Rattle.line_spec.specs.Bytewise.{any_found, all_same, any_same, all-broken, digit-apart}

-- a transit symbol opens the nine digits or closes them; a third is one too many
abbrev pub at_transit : Met → Met
at_transit Nothing = Inside 0
at_transit Digit = Inside 0
at_transit (Inside n) = cond (eqb n nine) Closed Broken
at_transit Closed = Broken
at_transit Broken = Broken

-- between two transit symbols digits are counted
abbrev pub at_digit : Met → Met
at_digit Nothing = Digit
at_digit Digit = Digit
at_digit (Inside n) = cond (ltb n nine) (Inside (n + 1)) Broken
at_digit Closed = Closed
at_digit Broken = Broken

-- any other byte may stand everywhere but between two transit symbols
abbrev pub at_other : Met → Met
at_other Nothing = Nothing
at_other Digit = Digit
at_other (Inside n) = Broken
at_other Closed = Closed
at_other Broken = Broken

-- one byte more
unfoldable pub passing : Met → ℕ → Met
passing m b = cond (is_transit b) (at_transit m) (cond (is_digit b) (at_digit m) (at_other m))

-- what a line of listed bytes is found to be, at its end
abbrev pub judged_by : Met → Result ⊤ TradeFault
judged_by Nothing = Err Trade
judged_by Digit = Ok tt
judged_by (Inside n) = Err Trade
judged_by Closed = Ok tt
judged_by Broken = Err Trade

-- the bytes that are left, once the others are passed
unfoldable pub passed : Met → List ℕ → Result ⊤ TradeFault
passed m [] = judged_by m
passed m (b ∷ s) = cond (is_listed b) (passed (passing m b) s) (Err Unlisted)

-- what the rule asks of the bytes that are left behind the first transit symbol and n digits
closing : ℕ → List ℕ → Bool
closing n s = cond (eqb (transits s) 1) (cond (eqb (n + length (before s)) nine) (all_digits (before s)) false) false

-- and what it asks of those that are left in each case
abbrev left : Met → List ℕ → Bool
left Nothing s = is_trade s
left Digit s = transits_right s
left (Inside n) s = closing n s
left Closed s = eqb (transits s) 0
left Broken s = false

-- one more on both sides of a test
one_more : (k n m : ℕ) → m ≡ n + 1 → eqb (suc k) m ≡ eqb k n
one_more k n m e = go (eqb k n) refl
  where
    go : (t : Bool) → eqb k n ≡ t → eqb (suc k) m ≡ t
    go true p = eq-eqb (suc k) m (let h = eqb-true k n p in omega arith)
    go false p = ne_eqb (suc k) m (λ h. eqb-false k n p (omega arith))

not_none : (k : ℕ) → eqb (suc k) 0 ≡ false
not_none k = ne_eqb (suc k) 0 (λ h. omega arith)

-- where some digits and no other byte stand before the first transit symbol, the line has a digit
digits-some : (s : List ℕ) → all_digits (before s) ≡ true → (length (before s) ≡ 0 → ⊥) → any_digit s ≡ true
unfolding before all_digits any_digit
digits-some [] a n = absurd (n refl)
digits-some (b ∷ s) a n = go (is_transit b) (is_digit b) refl a n
  where
    go : (t d : Bool) → is_digit b ≡ d → all_digits (cond t [] (b ∷ before s)) ≡ true → (length (cond t [] (b ∷ before s)) ≡ 0 → ⊥)
        → cond d true (any_digit s) ≡ true
    go true d q e f = absurd (f refl)
    go false true q e f = refl
    go false false q e f = never (rw q at e)

closing-digit : (s : List ℕ) → closing 0 s ≡ true → any_digit s ≡ true
unfolding closing
closing-digit s = go (eqb (transits s) 1) (eqb (0 + length (before s)) nine) refl
  where
    go : (t u : Bool) → eqb (0 + length (before s)) nine ≡ u → cond t (cond u (all_digits (before s)) false) false ≡ true → any_digit s ≡ true
    go true true p e = digits-some s e (λ h. let z = eqb-true (0 + length (before s)) nine p in omega arith)
    go true false p e = never e
    go false u p e = never e

-- a test that asks for what it tells anyway
told-anyway : (x a : Bool) → (x ≡ true → a ≡ true) → x ≡ cond a x false
told-anyway x true f = refl
told-anyway true false f = sym (f refl)
told-anyway false false f = refl

-- what is refused however the tests before it come out
nowhere : (t : Bool) → false ≡ cond t false false
nowhere true = refl
nowhere false = refl

itself : (t : Bool) → t ≡ cond t true false
itself true = refl
itself false = refl

module _ (b : ℕ) (s : List ℕ) where
  -- the first transit symbol
  opened : is_transit b ≡ true → closing 0 s ≡ transits_right (b ∷ s)
  unfolding transits_right closing
  opened t =
      let z : 0 + length (before s) ≡ length (before s) = omega arith in
      rw (transits-more b s t, behind-all b s t, not_none (transits s), one_more (transits s) 1 2 (omega arith), z)

  -- the second one, behind n digits
  closed : (n : ℕ) → is_transit b ≡ true → (u : Bool) → eqb n nine ≡ u → left (cond u Closed Broken) s ≡ closing n (b ∷ s)
  unfolding closing all_digits
  closed n t true p =
      let z : n + 0 ≡ n = omega arith in
      rw (transits-more b s t, before-none b s t, one_more (transits s) 0 1 (omega arith), z, p) (itself (eqb (transits s) 0))
  closed n t false p =
      let z : n + 0 ≡ n = omega arith in
      rw (transits-more b s t, before-none b s t, one_more (transits s) 0 1 (omega arith), z, p) (nowhere (eqb (transits s) 0))

  transit-step : (m : Met) → is_transit b ≡ true → is_digit b ≡ false → left (at_transit m) s ≡ left m (b ∷ s)
  unfolding is_trade
  transit-step Nothing t d = rw (any_same b s d, ← opened t) (told-anyway (closing 0 s) (any_digit s) (closing-digit s))
  transit-step Digit t d = opened t
  transit-step (Inside n) t d = closed n t (eqb n nine) refl
  transit-step Closed t d = rw (transits-more b s t) (sym (not_none (transits s)))
  transit-step Broken t d = refl

  -- a byte that is no transit symbol leaves what is asked of transit symbols as it was
  apart : is_transit b ≡ false → transits_right s ≡ transits_right (b ∷ s)
  unfolding transits_right
  apart t = rw (transits-same b s t, behind-same b s t)

  -- one digit more behind the first
  counted : (n : ℕ) → is_transit b ≡ false → is_digit b ≡ true → (u : Bool) → ltb n nine ≡ u
      → left (cond u (Inside (n + 1)) Broken) s ≡ closing n (b ∷ s)
  unfolding closing
  counted n t d true p =
      let z : n + suc (length (before s)) ≡ n + 1 + length (before s) = omega arith in
      rw (transits-same b s t, before_more b s t, all_same b (before s) d, z)
  counted n t d false p =
      let h = ltb-false n nine p in
      let z : eqb (n + suc (length (before s))) nine ≡ false = ne_eqb (n + suc (length (before s))) nine (λ e. omega arith) in
      rw (transits-same b s t, before_more b s t, z) (nowhere (eqb (transits s) 1))

  digit-step : (m : Met) → is_transit b ≡ false → is_digit b ≡ true → left (at_digit m) s ≡ left m (b ∷ s)
  unfolding is_trade
  digit-step Nothing t d = rw (any_found b s d) (apart t)
  digit-step Digit t d = apart t
  digit-step (Inside n) t d = counted n t d (ltb n nine) refl
  digit-step Closed t d = rw (transits-same b s t)
  digit-step Broken t d = refl

  -- another byte behind the first
  disturbed : (n : ℕ) → is_transit b ≡ false → is_digit b ≡ false → false ≡ closing n (b ∷ s)
  unfolding closing
  disturbed n t d =
      rw (transits-same b s t, before_more b s t, all-broken b (before s) d, ← nowhere (eqb (n + suc (length (before s))) nine))
      (nowhere (eqb (transits s) 1))

  other_step : (m : Met) → is_transit b ≡ false → is_digit b ≡ false → left (at_other m) s ≡ left m (b ∷ s)
  unfolding is_trade
  other_step Nothing t d = rw (any_same b s d, ← apart t)
  other_step Digit t d = apart t
  other_step (Inside n) t d = disturbed n t d
  other_step Closed t d = rw (transits-same b s t)
  other_step Broken t d = refl

  step : (m : Met) → left (passing m b) s ≡ left m (b ∷ s)
  unfolding passing
  step m = go (is_transit b) refl (is_digit b) refl
    where
      go : (t : Bool) → is_transit b ≡ t → (d : Bool) → is_digit b ≡ d
          → left (cond t (at_transit m) (cond d (at_digit m) (at_other m))) s ≡ left m (b ∷ s)
      go true p true q = never (sym (digit-apart b q) ∙ p)
      go true p false q = transit-step m p q
      go false p true q = digit-step m p q
      go false p false q = other_step m p q

-- 9, over the whole line, then 13
found : Bool → Bool → Result ⊤ TradeFault
found listed right = cond (not listed) (Err Unlisted) (cond (not right) (Err Trade) (Ok tt))

none_left : (m : Met) → judged_by m ≡ found true (left m [])
unfolding found is_trade transits_right transits any_digit closing
none_left Nothing = refl
none_left Digit = refl
none_left (Inside n) = refl
none_left Closed = refl
none_left Broken = refl

passed_is : (m : Met) (s : List ℕ) → passed m s ≡ found (all_listed s) (left m s)
unfolding passed all_listed found
passed_is m [] = none_left m
passed_is m (b ∷ s) = go (passed_is (passing m b) s) (is_listed b)
  where
    go : passed (passing m b) s ≡ found (all_listed s) (left (passing m b) s) → (l : Bool)
        → cond l (passed (passing m b) s) (Err Unlisted) ≡ found (cond l (all_listed s) false) (left m (b ∷ s))
    go h true = h ∙ ap (found (all_listed s)) (step b s m)
    go h false = refl

-- the one pass finds what the rule says
pub pass-rule : (s : List ℕ) → passed Nothing s ≡ line_rule s
unfolding line_rule found
pass-rule s = passed_is Nothing s
