-- Stuffing and unstuffing undo each other, so stuffing is one to one. Assumes nothing.
use Rattle.std.specs.Prelude.{◌≡◌, refl, List, [], ◌∷◌, ◌++◌, Bool, true, false, ℕ, eqb}
use Rattle.std.proofs.Common.{sym, ap, ◌∙◌, eqb-true, ne_eqb}
use Rattle.frame_stuff_spec.specs.Stuffing.{mark, escape, escaped_mark, escaped_escape, stuff_byte, stuffed}
use Rattle.frame_stuff_spec.specs.Stuffing.{unstuffed, WellStuffed, none, plain, a-mark, an-escape}

-- one stuffed byte, read outside an escape
one : (t u : Bool) (b : ℕ) (s : List ℕ) → eqb b mark ≡ t → eqb b escape ≡ u → unstuffed (stuff_byte b ++ s) ≡ b ∷ unstuffed s
unfolding unstuffed
one true u b s p q = rw p (ap (λ (x : ℕ). x ∷ unstuffed s) (sym (eqb-true b mark p)))
one false true b s p q = rw (p, q) (ap (λ (x : ℕ). x ∷ unstuffed s) (sym (eqb-true b escape q)))
one false false b s p q = rw (p, q) (rw q)

-- unstuffing what was stuffed gives the body back
pub unstuff-stuff : (b : List ℕ) → unstuffed (stuffed b) ≡ b
unfolding unstuffed stuffed
unstuff-stuff [] = refl
unstuff-stuff (x ∷ b) = one (eqb x mark) (eqb x escape) x (stuffed b) refl refl ∙ ap (λ (l : List ℕ). x ∷ l) (unstuff-stuff b)

-- no two bodies have one stretch
pub stuffed-one-to-one : (a b : List ℕ) → stuffed a ≡ stuffed b → a ≡ b
stuffed-one-to-one a b e = sym (unstuff-stuff a) ∙ ap unstuffed e ∙ unstuff-stuff b

-- stuffing what was unstuffed gives a well-stuffed stretch back
pub stuff-unstuff : {s : List ℕ} → WellStuffed s → stuffed (unstuffed s) ≡ s
unfolding unstuffed stuffed
stuff-unstuff none = refl
stuff-unstuff (plain {b} {s} n e w) = rw (ne_eqb b escape e) (rw (ne_eqb b mark n, ne_eqb b escape e) (ap (λ (l : List ℕ). b ∷ l) (stuff-unstuff w)))
stuff-unstuff (a-mark w) = ap (λ (l : List ℕ). escape ∷ escaped_mark ∷ l) (stuff-unstuff w)
stuff-unstuff (an-escape w) = ap (λ (l : List ℕ). escape ∷ escaped_escape ∷ l) (stuff-unstuff w)

-- no two well-stuffed stretches have one body
pub unstuffed-one-to-one : {s t : List ℕ} → WellStuffed s → WellStuffed t → unstuffed s ≡ unstuffed t → s ≡ t
unstuffed-one-to-one v w e = sym (stuff-unstuff v) ∙ ap stuffed e ∙ stuff-unstuff w
