-- The rule of a line as a statement on lists: a line is accepted exactly if each of its bytes is a digit, a symbol or the blank, and it is
-- the trade's line. Assumes nothing.
use Rattle.std.specs.Prelude.{◌≡◌, refl, ◌↔◌, Bool, true, false, not, cond, List, [], ◌∷◌, ℕ, eqb, leb, Ok, Err, Result, ⊤}
use Rattle.std.proofs.Common.{arith, le-leb, leb-true, eqb-true}
use Rattle.std.proofs.lemmas.Bool.{lt-leb}
use Rattle.base_lists.specs.Never.{never}
use Rattle.line_spec.specs.declared.TradeFault.{TradeFault}
use Rattle.line_spec.specs.declared.TradeFault.TheVariants.{Unlisted, Trade}
use Rattle.line_spec.specs.Lines.{first_digit, last_digit, transit, dash, blank, is_digit, is_listed, all_listed, is_trade, line_rule}
use Rattle.line_spec.specs.Trade.{TradeLine, trade-is, is-trade}
use Rattle.line_spec.specs.Rule.{Listed, a-digit, a-symbol, a-blank, AllListed}

-- the test of a byte says what the statement says
pub listed-is : (b : ℕ) → Listed b → is_listed b ≡ true
unfolding is_listed is_digit
listed-is b (a-digit l h) = rw (le-leb first_digit b l, le-leb b last_digit h)
listed-is b (a-symbol l h) =
    rw (le-leb first_digit b (omega arith), lt-leb b last_digit (omega arith), le-leb transit b l, le-leb b dash h)
listed-is b (a-blank e) = rw e

pub is-listed : (b : ℕ) → is_listed b ≡ true → Listed b
unfolding is_listed is_digit
is-listed b = go (leb first_digit b) refl (leb b last_digit) refl (leb transit b) refl (leb b dash) refl
  where
    go : (t : Bool) → leb first_digit b ≡ t → (u : Bool) → leb b last_digit ≡ u
        → (v : Bool) → leb transit b ≡ v → (w : Bool) → leb b dash ≡ w
        → cond (cond t u false) true (cond (cond v w false) true (eqb b blank)) ≡ true → Listed b
    go true p true q v r w s e = a-digit (leb-true first_digit b p) (leb-true b last_digit q)
    go true p false q true r true s e = a-symbol (leb-true transit b r) (leb-true b dash s)
    go true p false q true r false s e = a-blank (eqb-true b blank e)
    go true p false q false r w s e = a-blank (eqb-true b blank e)
    go false p u q true r true s e = a-symbol (leb-true transit b r) (leb-true b dash s)
    go false p u q true r false s e = a-blank (eqb-true b blank e)
    go false p u q false r w s e = a-blank (eqb-true b blank e)

-- a test that isn't true is false
refuted : {X : Type 0} (t : Bool) → (t ≡ true → X) → (X → ⊥) → t ≡ false
refuted true f n = absurd (n (f refl))
refuted false f n = refl

pub not_listed : (b : ℕ) → (Listed b → ⊥) → is_listed b ≡ false
not_listed b n = refuted (is_listed b) (is-listed b) n

-- the test of a line says what the statement says
pub all-listed-is : (s : List ℕ) → AllListed s → all_listed s ≡ true
unfolding all_listed
all-listed-is [] a = refl
all-listed-is (b ∷ s) a = rw (listed-is b a.0) (all-listed-is s a.1)

both : {X Y : Type 0} (t u : Bool) → (t ≡ true → X) → (u ≡ true → Y) → cond t u false ≡ true → X × Y
both true u f g e = (f refl, g e)
both false u f g e = never e

pub is-all-listed : (s : List ℕ) → all_listed s ≡ true → AllListed s
unfolding all_listed
is-all-listed [] e = tt
is-all-listed (b ∷ s) e = both (is_listed b) (all_listed s) (is-listed b) (is-all-listed s) e

-- the rule's answers, in their order
pub rule-unlisted : (s : List ℕ) → (AllListed s → ⊥) → line_rule s ≡ Err Unlisted
unfolding line_rule
rule-unlisted s n = rw (refuted (all_listed s) (is-all-listed s) n)

pub rule-trade : (s : List ℕ) → AllListed s → (TradeLine s → ⊥) → line_rule s ≡ Err Trade
unfolding line_rule
rule-trade s a n = rw (all-listed-is s a, refuted (is_trade s) (is-trade s) n)

pub rule-accepted : (s : List ℕ) → AllListed s → TradeLine s → line_rule s ≡ Ok tt
unfolding line_rule
rule-accepted s a t = rw (all-listed-is s a, trade-is s t)

pub accepted-rule : (s : List ℕ) → line_rule s ≡ Ok tt → AllListed s × TradeLine s
unfolding line_rule
accepted-rule s = go (all_listed s) refl (is_trade s) refl
  where
    go : (t : Bool) → all_listed s ≡ t → (u : Bool) → is_trade s ≡ u → ◌≡◌ {A = Result ⊤ TradeFault} (cond (not t) (Err Unlisted) (cond (not u) (Err Trade) (Ok tt))) (Ok tt)
        → AllListed s × TradeLine s
    go true p true q e = (is-all-listed s p, is-trade s q)
    go true p false q e = absurd (let z : ◌≡◌ {A = ℕ} 0 1 = cc e in omega arith)
    go false p u q e = absurd (let z : ◌≡◌ {A = ℕ} 0 1 = cc e in omega arith)

-- a line is accepted exactly if all its bytes are listed and it is the trade's
pub trade-line : (s : List ℕ) → (line_rule s ≡ Ok tt) ↔ (AllListed s × TradeLine s)
trade-line s = (accepted-rule s, λ (a, t). rule-accepted s a t)
