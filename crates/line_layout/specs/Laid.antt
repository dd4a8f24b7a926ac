-- What the layouts share, over the account's digit count d: a line of layout d as a statement on lists, its 12 + d bytes, that it meets the
-- rule of a line, and that no line is of two layouts. Assumes nothing.
use Rattle.std.specs.Prelude.{◌≡◌, refl, ◌↔◌, Bool, true, false, cond, List, [], ◌∷◌, ◌++◌, ℕ, suc, ◌+◌, eqb, length, get_or, take, drop, Ok}
use Rattle.std.proofs.Common.{sym, ap, ◌∙◌, arith, length-append, length-drop, take-append-drop, drop_of_length-le, take_at, drop-drop, get_or-append-add, length-take-le, eq-eqb, eqb-true}
use Rattle.std.proofs.lemmas.List.{get_or_at}
use Rattle.std.proofs.Math.Seq.{drop-append-add}
use Rattle.base_lists.specs.Never.{never}
use Rattle.base_lists.specs.Free.{Free}
use Rattle.base_lists.specs.Walk.{at}
use Rattle.line_spec.specs.Lines.{nine, transit, on_us, is_transit, all_digits, line_rule}
use Rattle.line_spec.specs.Bytewise.{is-transit}
use Rattle.line_spec.specs.Trade.{Digits, two-transits, are-digits, digits_are, digits-free}
use Rattle.line_spec.specs.Rule.{AllListed, a-digit, a-symbol}
use Rattle.line_spec.proofs.Rule.{rule-accepted}
use Rattle.line_layout.specs.declared.Layout.{Layout}
use Rattle.line_layout.specs.declared.Layout.TheVariants.{A, B}
use Rattle.line_layout.specs.Layouts.{digits_a, digits_b, part, is_laid, has_layout, layout_rule}
use Rattle.line_layout.specs.Rule as ruled
use Rattle.line_layout.specs.Tests.{by_last}

-- transit, nine digits, transit, d digits, on-us, and nothing else
pub record LaidOut (d : ℕ) (s : List ℕ) : Type 0 where
  pub bank : List ℕ
  pub account : List ℕ
  pub whole : s ≡ transit ∷ (bank ++ (transit ∷ (account ++ (on_us ∷ []))))
  pub bank-is : (length bank ≡ nine) × Digits bank
  pub account-is : (length account ≡ d) × Digits account

-- what the tests say
record Tests (d : ℕ) (s : List ℕ) : Type 0 where
  long : length s ≡ 12 + d
  first : get_or s 0 0 ≡ transit
  bank : all_digits (part 1 nine s) ≡ true
  second : get_or s 10 0 ≡ transit
  account : all_digits (part 11 d s) ≡ true
  last : get_or s (11 + d) 0 ≡ on_us

tested : (d : ℕ) (s : List ℕ) → is_laid d s ≡ true → Tests d s
unfolding is_laid
tested d s =
    go (eqb (length s) (12 + d)) refl (is_transit (get_or s 0 0)) refl (all_digits (part 1 nine s)) refl (is_transit (get_or s 10 0)) refl
    (all_digits (part 11 d s)) refl
  where
    go : (x : Bool) → eqb (length s) (12 + d) ≡ x → (f : Bool) → is_transit (get_or s 0 0) ≡ f → (b : Bool) → all_digits (part 1 nine s) ≡ b
        → (g : Bool) → is_transit (get_or s 10 0) ≡ g → (a : Bool) → all_digits (part 11 d s) ≡ a
        → cond x (cond f (cond b (cond g (cond a (eqb (get_or s (11 + d) 0) on_us) false) false) false) false) false ≡ true → Tests d s
    go true l true f true b true g true a e = record {
      long = eqb-true (length s) (12 + d) l;
      first = is-transit (get_or s 0 0) f;
      bank = b;
      second = is-transit (get_or s 10 0) g;
      account = a;
      last = eqb-true (get_or s (11 + d) 0) on_us e;
    }
    go true l true f true b true g false a e = never e
    go true l true f true b false g a p e = never e
    go true l true f false b g p a q e = never e
    go true l false f b p g q a r e = never e
    go false l f p b q g r a o e = never e

-- the places of a line of 12 + d bytes, one after another
parted : (d : ℕ) (s : List ℕ) → length s ≡ 12 + d
    → s ≡ get_or s 0 0 ∷ (part 1 nine s ++ (get_or s 10 0 ∷ (part 11 d s ++ (get_or s (11 + d) 0 ∷ []))))
parted d s l =
    let bank : drop 1 s ≡ part 1 nine s ++ drop 10 s =
    sym (take-append-drop nine (drop 1 s)) ∙ ap (λ (x : List ℕ). part 1 nine s ++ x) (drop-drop nine 1 s) in
    let account : drop 11 s ≡ part 11 d s ++ drop (11 + d) s =
    sym (take-append-drop d (drop 11 s)) ∙ ap (λ (x : List ℕ). part 11 d s ++ x) (drop-drop d 11 s) in
    let end : drop (11 + d + 1) s ≡ [] = drop_of_length-le s {i = 11 + d + 1} (omega (arith, l)) in
    let last : drop (11 + d) s ≡ get_or s (11 + d) 0 ∷ [] =
    at s (11 + d) (omega (arith, l)) ∙ ap (λ (x : List ℕ). get_or s (11 + d) 0 ∷ x) end in
    let behind : drop 10 s ≡ get_or s 10 0 ∷ (part 11 d s ++ (get_or s (11 + d) 0 ∷ [])) =
    at s 10 (omega (arith, l)) ∙ ap (λ (x : List ℕ). get_or s 10 0 ∷ x) (account ∙ ap (λ (x : List ℕ). part 11 d s ++ x) last) in
    at s 0 (omega (arith, l)) ∙ ap (λ (x : List ℕ). get_or s 0 0 ∷ x) (bank ∙ ap (λ (x : List ℕ). part 1 nine s ++ x) behind)

-- the test of a layout says what the statement says
pub is-laid-out : (d : ℕ) (s : List ℕ) → is_laid d s ≡ true → LaidOut d s
is-laid-out d s e =
    let t = tested d s e in
    let p = parted d s t.long in
    record {
      bank = part 1 nine s;
      account = part 11 d s;
      whole = rw (t.first, t.second, t.last) at p;
      bank-is = (length-take-le nine (drop 1 s) (rw length-drop (omega (arith, t.long))), are-digits (part 1 nine s) t.bank);
      account-is = (length-take-le d (drop 11 s) (rw length-drop (omega (arith, t.long))), are-digits (part 11 d s) t.account);
    }

pub laid-out-is : (d : ℕ) (s : List ℕ) → LaidOut d s → is_laid d s ≡ true
laid-out-is d s o = ap (is_laid d) o.whole ∙ put o.bank o.account o.bank-is o.account-is
  where
    put : (b a : List ℕ) → (length b ≡ nine) × Digits b → (length a ≡ d) × Digits a
        → is_laid d (transit ∷ (b ++ (transit ∷ (a ++ (on_us ∷ []))))) ≡ true
    put b a hb ha =
        let q = a ++ (on_us ∷ []) in
        let r = (transit ∷ b) ++ (transit ∷ q) in
        let front : length (transit ∷ b) ≡ 10 = omega (arith, hb.0) in
        let long : length r ≡ 12 + d = omega (arith, hb.0, ha.0, length-append b (transit ∷ q), length-append a (on_us ∷ [])) in
        let bank : part 1 nine r ≡ b = take_at b (transit ∷ q) nine hb.0 in
        let behind : drop 11 r ≡ q =
        ap (λ (k : ℕ). drop k r) (let w : 11 ≡ length (transit ∷ b) + 1 = omega (arith, front) in w) ∙ drop-append-add (transit ∷ b) (transit ∷ q) 1 in
        let account : part 11 d r ≡ a = ap (take d) behind ∙ take_at a (on_us ∷ []) d ha.0 in
        let last : get_or r (11 + d) 0 ≡ on_us =
        ap (λ (k : ℕ). get_or r k 0) (let w : 11 + d ≡ length (transit ∷ b) + suc d = omega (arith, front) in w)
        ∙ get_or-append-add (transit ∷ b) (transit ∷ q) (suc d) 0 ∙ get_or_at a on_us [] 0 d ha.0 in
        by_last d r long refl (ap all_digits bank ∙ digits_are b hb.1) (get_or_at (transit ∷ b) transit q 0 10 front)
        (ap all_digits account ∙ digits_are a ha.1) ∙ eq-eqb (get_or r (11 + d) 0) on_us last

pub laid_out : (d : ℕ) (s : List ℕ) → (is_laid d s ≡ true) ↔ LaidOut d s
laid_out d s = (is-laid-out d s, laid-out-is d s)

-- a line of layout d has 12 + d bytes
pub laid-length : (d : ℕ) (s : List ℕ) → is_laid d s ≡ true → length s ≡ 12 + d
laid-length d s e = (tested d s e).long

-- no line is of two layouts
pub one-layout : (d e : ℕ) (s : List ℕ) → is_laid d s ≡ true → is_laid e s ≡ true → d ≡ e
one-layout d e s x y = omega (arith, laid-length d s x, laid-length e s y)

-- a line of layout d meets the rule of a line
digits-listed : (s : List ℕ) → Digits s → AllListed s
digits-listed [] d = tt
digits-listed (b ∷ s) d = (a-digit d.0.0 d.0.1, digits-listed s d.1)

listed-join : (s t : List ℕ) → AllListed s → AllListed t → AllListed (s ++ t)
listed-join [] t x y = y
listed-join (b ∷ s) t x y = (x.0, listed-join s t x.1 y)

free-join : (s t : List ℕ) → Free transit s → Free transit t → Free transit (s ++ t)
free-join [] t x y = y
free-join (b ∷ s) t x y = (x.0, free-join s t x.1 y)

pub laid-accepted : (d : ℕ) (s : List ℕ) → is_laid d s ≡ true → line_rule s ≡ Ok tt
laid-accepted d s e =
    let o = is-laid-out d s e in
    let end = o.account ++ (on_us ∷ []) in
    let last : AllListed end =
    listed-join o.account (on_us ∷ []) (digits-listed o.account o.account-is.1) (a-symbol (omega arith) (omega arith), tt) in
    let listed : AllListed (transit ∷ (o.bank ++ (transit ∷ end))) = (
      a-symbol (omega arith) (omega arith),
      listed-join o.bank (transit ∷ end) (digits-listed o.bank o.bank-is.1) (a-symbol (omega arith) (omega arith), last),
    ) in
    let free : Free transit end =
    free-join o.account (on_us ∷ []) (digits-free o.account o.account-is.1) ((λ h. omega (arith, h)), tt) in
    rule-accepted s (rw o.whole listed) (two-transits [] o.bank end o.whole tt free o.bank-is.0 o.bank-is.1)

-- under a layout of d digits exactly the lines laid out so are accepted
accepted-laid : (l : Layout) (d : ℕ) (s : List ℕ) → has_layout l s ≡ is_laid d s → (layout_rule l s ≡ Ok tt) ↔ LaidOut d s
accepted-laid l d s h = (
  (λ e. is-laid-out d s (sym h ∙ (ruled.accepted-both l s e).1)),
  (λ o. let y = laid-out-is d s o in ruled.rule-accepted l s (laid-accepted d s y) (h ∙ y)),
)

pub accepted-a : (s : List ℕ) → (layout_rule A s ≡ Ok tt) ↔ LaidOut digits_a s
accepted-a s = accepted-laid A digits_a s refl

pub accepted-b : (s : List ℕ) → (layout_rule B s ≡ Ok tt) ↔ LaidOut digits_b s
accepted-b s = accepted-laid B digits_b s refl
