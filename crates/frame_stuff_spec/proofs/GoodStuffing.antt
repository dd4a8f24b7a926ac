-- What the two rules count: the body's length exactly on well-stuffed stretches, and bad stuffing exactly on all others.
-- The well-stuffed stretches are those that stuffing makes. Assumes nothing.
use Rattle.std.specs.Prelude.{◌≡◌, refl, ◌⊎◌, List, [], ◌∷◌, ◌++◌, Bool, true, false, cond, ℕ, eqb, length, Some, None, Option}
use Rattle.std.proofs.Common.{sym, subst, ap, inl, inr, arith, eqb-true, ne_eqb}
use Rattle.std.proofs.lemmas.Bool.{eqb-false}
use Rattle.frame_stuff_spec.specs.Stuffing.{mark, escape, escaped_mark, escaped_escape, stuff_byte, stuffed}
use Rattle.frame_stuff_spec.specs.Stuffing.{unstuffed, WellStuffed, none, plain, a-mark, an-escape}
use Rattle.frame_stuff_spec.specs.Rules.{one_more, length_outside, length_inside}

stuff-byte-well : (t u : Bool) (b : ℕ) (s : List ℕ) → eqb b mark ≡ t → eqb b escape ≡ u → WellStuffed s → WellStuffed (stuff_byte b ++ s)
stuff-byte-well true u b s p q w = rw p (a-mark w)
stuff-byte-well false true b s p q w = rw (p, q) (an-escape w)
stuff-byte-well false false b s p q w = rw (p, q) (plain (eqb-false b mark p) (eqb-false b escape q) w)

-- what is stuffed is well stuffed
pub stuff-well : (b : List ℕ) → WellStuffed (stuffed b)
unfolding stuffed
stuff-well [] = none
stuff-well (x ∷ b) = stuff-byte-well (eqb x mark) (eqb x escape) x (stuffed b) refl refl (stuff-well b)

-- a well-stuffed stretch taken apart
no-mark : {b : ℕ} {s : List ℕ} → WellStuffed (b ∷ s) → b ≡ mark → ⊥
no-mark (plain n e w) p = n p
no-mark (a-mark w) p = omega (arith, p)
no-mark (an-escape w) p = omega (arith, p)

after-plain : {b : ℕ} {s : List ℕ} → WellStuffed (b ∷ s) → (b ≡ escape → ⊥) → WellStuffed s
after-plain (plain n e w) p = w
after-plain (a-mark w) p = absurd (p refl)
after-plain (an-escape w) p = absurd (p refl)

no-dangling : WellStuffed (escape ∷ []) → ⊥
no-dangling (plain n e w) = e refl

after-escape : {b : ℕ} {s : List ℕ} → WellStuffed (escape ∷ b ∷ s) → WellStuffed s
after-escape (plain n e w) = absurd (e refl)
after-escape (a-mark w) = w
after-escape (an-escape w) = w

in-escape : {b : ℕ} {s : List ℕ} → WellStuffed (escape ∷ b ∷ s) → (b ≡ escaped_mark → ⊥) → (b ≡ escaped_escape → ⊥) → ⊥
in-escape (plain n e w) p q = e refl
in-escape (a-mark w) p q = p refl
in-escape (an-escape w) p q = q refl

-- what a count says of the stretch
abbrev Tells : Option ℕ → List ℕ → Type 0
Tells (Some n) s = WellStuffed s × (n ≡ length (unstuffed s))
Tells None s = WellStuffed s → ⊥

plain-tells : (b : ℕ) (s : List ℕ) → (b ≡ mark → ⊥) → (b ≡ escape → ⊥) → (c : Option ℕ) → Tells c s → Tells (one_more c) (b ∷ s)
unfolding unstuffed
plain-tells b s n e (Some k) t = (plain n e t.0, rw (ne_eqb b escape e) (omega (arith, t.1)))
plain-tells b s n e None t = λ w. t (after-plain w e)

mark-tells : (s : List ℕ) (c : Option ℕ) → Tells c s → Tells (one_more c) (escape ∷ escaped_mark ∷ s)
unfolding unstuffed
mark-tells s (Some k) t = (a-mark t.0, omega (arith, t.1))
mark-tells s None t = λ w. t (after-escape w)

escape-tells : (s : List ℕ) (c : Option ℕ) → Tells c s → Tells (one_more c) (escape ∷ escaped_escape ∷ s)
unfolding unstuffed
escape-tells s (Some k) t = (an-escape t.0, omega (arith, t.1))
escape-tells s None t = λ w. t (after-escape w)

empty : 0 ≡ length (unstuffed [])
unfolding unstuffed
empty = refl

outside-step : (b : ℕ) (s : List ℕ) (c d : Option ℕ) → Tells c (escape ∷ s) → Tells d s
    → (t : Bool) → eqb b mark ≡ t → (u : Bool) → eqb b escape ≡ u → Tells (cond t None (cond u c (one_more d))) (b ∷ s)
outside-step b s c d i o true p u q = λ w. no-mark w (eqb-true b mark p)
outside-step b s c d i o false p true q = subst (λ (x : ℕ). Tells c (x ∷ s)) (sym (eqb-true b escape q)) i
outside-step b s c d i o false p false q = plain-tells b s (eqb-false b mark p) (eqb-false b escape q) d o

inside-step : (b : ℕ) (s : List ℕ) (d : Option ℕ) → Tells d s
    → (t : Bool) → eqb b escaped_mark ≡ t → (u : Bool) → eqb b escaped_escape ≡ u
    → Tells (cond (cond t true u) (one_more d) None) (escape ∷ b ∷ s)
inside-step b s d o true p u q =
    subst (λ (x : ℕ). Tells (one_more d) (escape ∷ x ∷ s)) (sym (eqb-true b escaped_mark p)) (mark-tells s d o)
inside-step b s d o false p true q =
    subst (λ (x : ℕ). Tells (one_more d) (escape ∷ x ∷ s)) (sym (eqb-true b escaped_escape q)) (escape-tells s d o)
inside-step b s d o false p false q = λ w. in-escape w (eqb-false b escaped_mark p) (eqb-false b escaped_escape q)

mutual
  unfolding length_outside

  outside-tells : (s : List ℕ) → Tells (length_outside s) s
  outside-tells [] = (none, empty)
  outside-tells (b ∷ s) =
      outside-step b s (length_inside s) (length_outside s) (inside-tells s) (outside-tells s) (eqb b mark) refl (eqb b escape) refl

  inside-tells : (s : List ℕ) → Tells (length_inside s) (escape ∷ s)
  inside-tells [] = no-dangling
  inside-tells (b ∷ s) =
      inside-step b s (length_outside s) (outside-tells s) (eqb b escaped_mark) refl (eqb b escaped_escape) refl

-- the rules' count by cases on good stuffing
counted : (s : List ℕ) (c : Option ℕ) → Tells c s → WellStuffed s → c ≡ Some (length (unstuffed s))
counted s (Some n) t w = ap Some t.1
counted s None t w = absurd (t w)

refused : (s : List ℕ) (c : Option ℕ) → Tells c s → (WellStuffed s → ⊥) → c ≡ None
refused s (Some n) t w = absurd (w t.0)
refused s None t w = refl

-- a well-stuffed stretch is counted as long as its body
pub rules-good : {s : List ℕ} → WellStuffed s → length_outside s ≡ Some (length (unstuffed s))
rules-good {s} w = counted s (length_outside s) (outside-tells s) w

-- any other is bad stuffing
pub rules-bad : (s : List ℕ) → (WellStuffed s → ⊥) → length_outside s ≡ None
rules-bad s n = refused s (length_outside s) (outside-tells s) n

-- only a well-stuffed stretch is counted
pub good-rules : (s : List ℕ) (n : ℕ) → length_outside s ≡ Some n → WellStuffed s × (n ≡ length (unstuffed s))
good-rules s n e = subst (λ (c : Option ℕ). Tells c s) e (outside-tells s)

-- and no well-stuffed stretch is bad stuffing
pub bad-rules : (s : List ℕ) → length_outside s ≡ None → WellStuffed s → ⊥
bad-rules s e = subst (λ (c : Option ℕ). Tells c s) e (outside-tells s)

decided : (s : List ℕ) (c : Option ℕ) → Tells c s → WellStuffed s ⊎ (WellStuffed s → ⊥)
decided s (Some n) t = inl t.0
decided s None t = inr t

-- every stretch is well stuffed or not
pub well-or-not : (s : List ℕ) → WellStuffed s ⊎ (WellStuffed s → ⊥)
well-or-not s = decided s (length_outside s) (outside-tells s)
