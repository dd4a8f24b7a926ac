-- `same` says exactly that two byte lists are equal. Assumes nothing.
use Rattle.std.specs.Prelude.{◌≡◌, refl, Bool, true, false, cond, List, [], ◌∷◌, ℕ, zero, suc, ◌+◌, ◌<◌, ◌≤◌, eqb, length, get_or, take}
use Rattle.std.proofs.Common.{ap, ap₂, ◌∙◌, not-suc-le-zero, le_of_suc-le-suc, arith, take_all, add-one, eqb-true, eq-eqb, ne_eqb}
use Rattle.base_lists.specs.Never.{never}
use Rattle.base_lists.specs.Buffers.{same}

pub same_refl : (s : List ℕ) → same s s ≡ true
unfolding same
same_refl [] = refl
same_refl (a ∷ s) = rw (eq-eqb a a refl) (same_refl s)

head_of : (t u : Bool) → cond t u false ≡ true → t ≡ true
head_of true u e = refl
head_of false u e = e

tail_of : (t u : Bool) → cond t u false ≡ true → u ≡ true
tail_of true u e = e
tail_of false u e = never e

pub same-eq : (s t : List ℕ) → same s t ≡ true → s ≡ t
unfolding same
same-eq [] [] e = refl
same-eq [] (b ∷ t) e = never e
same-eq (a ∷ s) [] e = never e
same-eq (a ∷ s) (b ∷ t) e = ap₂ ◌∷◌ (eqb-true a b (head_of (eqb a b) (same s t) e)) (same-eq s t (tail_of (eqb a b) (same s t) e))

-- lists of different lengths are not the same
pub same_length : (s t : List ℕ) → (length s ≡ length t → ⊥) → same s t ≡ false
unfolding same
same_length [] [] h = absurd (h refl)
same_length [] (b ∷ t) h = refl
same_length (a ∷ s) [] h = refl
same_length (a ∷ s) (b ∷ t) h = shorter (eqb a b) (same_length s t (λ e. h (ap suc e)))
  where
    shorter : (x : Bool) {u : Bool} → u ≡ false → cond x u false ≡ false
    shorter true e = e
    shorter false e = refl

-- one element more of each
pub same_more : (s t : List ℕ) (i : ℕ) → i < length s → i < length t
    → same (take (suc i) s) (take (suc i) t) ≡ cond (eqb (get_or s i 0) (get_or t i 0)) (same (take i s) (take i t)) false
unfolding same
same_more [] t i h g = absurd (not-suc-le-zero h)
same_more (a ∷ s) [] i h g = absurd (not-suc-le-zero g)
same_more (a ∷ s) (b ∷ t) zero h g = refl
same_more (a ∷ s) (b ∷ t) (suc i) h g =
    rw (same_more s t i (le_of_suc-le-suc h) (le_of_suc-le-suc g)) (swap (eqb a b) (eqb (get_or s i 0) (get_or t i 0)) (same (take i s) (take i t)))
  where
    swap : (x y u : Bool) → cond x (cond y u false) false ≡ cond y (cond x u false) false
    swap true true u = refl
    swap true false u = refl
    swap false true u = refl
    swap false false u = refl

-- after i turns of a loop over two lists of one length: whether their first i elements are the same
pub record Compared (s t : List ℕ) (equal : Bool) (i : ℕ) : Type 0 where
  pub long : length s ≡ length t
  pub turns : i ≤ length s
  pub so_far : equal ≡ same (take i s) (take i t)

pub compared-none : {s t : List ℕ} → length s ≡ length t → Compared s t true 0
unfolding same
compared-none h = record { long = h; turns = omega arith; so_far = refl }

pub compared-more : {s t : List ℕ} {equal : Bool} {i : ℕ} → Compared s t equal i → i < length s
    → get_or s i 0 ≡ get_or t i 0 → Compared s t equal (i + 1)
compared-more {s} {t} {equal} {i} c h e =
    let g : length s ≡ length t = c.long in
    record {
      long = g;
      turns = omega arith;
      so_far = c.so_far ∙ rw (add-one, same_more s t i h (omega arith), eq-eqb (get_or s i 0) (get_or t i 0) e);
    }

pub compared-less : {s t : List ℕ} {equal : Bool} {i : ℕ} → Compared s t equal i → i < length s
    → (get_or s i 0 ≡ get_or t i 0 → ⊥) → Compared s t false (i + 1)
compared-less {s} {t} {equal} {i} c h n =
    let g : length s ≡ length t = c.long in
    record {
      long = g;
      turns = omega arith;
      so_far = rw (add-one, same_more s t i h (omega arith), ne_eqb (get_or s i 0) (get_or t i 0) n);
    }

pub compared-all : {s t : List ℕ} {equal : Bool} {i : ℕ} → Compared s t equal i → length s ≤ i → equal ≡ same s t
compared-all {s} {t} {equal} {i} c h =
    let g : length s ≡ length t = c.long in
    c.so_far ∙ rw (take_all i s h, take_all i t (omega arith))
