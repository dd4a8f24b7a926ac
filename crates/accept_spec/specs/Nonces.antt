-- Nonces seen: whether one occurs among others, and lists in which none occurs twice. Assumes nothing.
use Rattle.std.specs.Prelude.{◌≡◌, refl, Bool, true, false, cond, List, [], ◌∷◌, ◌++◌, ℕ}
use Rattle.std.proofs.Common.{sym, ap, ◌∙◌}
use Rattle.base_lists.specs.Never.{never}
use Rattle.base_lists.specs.Buffers.{same}
use Rattle.base_lists.specs.Sameness.{same_refl, same-eq}

-- a nonce occurs among those seen
unfoldable pub met : List (List ℕ) → List ℕ → Bool
met [] n = false
met (m ∷ seen) n = cond (same m n) true (met seen n)

-- it is one of them
abbrev pub Occurs : List ℕ → List (List ℕ) → Type 0
Occurs n l = (before after : List (List ℕ)) × (l ≡ before ++ (n ∷ after))

-- it is none of them
abbrev pub Differs : List ℕ → List (List ℕ) → Type 0
Differs n [] = Unit {0}
Differs n (m ∷ l) = (m ≡ n → ⊥) × Differs n l

-- no two are one: each differs from all that come after it
abbrev pub AllDiffer : List (List ℕ) → Type 0
AllDiffer [] = Unit {0}
AllDiffer (m ∷ l) = Differs m l × AllDiffer l

pub met-occurs : (l : List (List ℕ)) (n : List ℕ) → met l n ≡ true → Occurs n l
unfolding met
met-occurs [] n e = never e
met-occurs (m ∷ l) n e = go (same m n) refl e (met-occurs l n)
  where
    go : (t : Bool) → same m n ≡ t → cond t true (met l n) ≡ true → (met l n ≡ true → Occurs n l) → Occurs n (m ∷ l)
    go true q x on = ([], l, ap (λ (y : List ℕ). y ∷ l) (same-eq m n q))
    go false q x on = let (a, b, p) = on x in (m ∷ a, b, ap (λ (y : List (List ℕ)). m ∷ y) p)

pub met-differs : (l : List (List ℕ)) (n : List ℕ) → met l n ≡ false → Differs n l
unfolding met
met-differs [] n e = tt
met-differs (m ∷ l) n e = go (same m n) refl e (met-differs l n)
  where
    go : (t : Bool) → same m n ≡ t → cond t true (met l n) ≡ false → (met l n ≡ false → Differs n l) → Differs n (m ∷ l)
    go true q x on = never (sym x)
    go false q x on = (λ z. never (sym q ∙ ap (λ (y : List ℕ). same y n) z ∙ same_refl n), on x)

pub differs-met : (l : List (List ℕ)) (n : List ℕ) → Differs n l → met l n ≡ false
unfolding met
differs-met [] n d = refl
differs-met (m ∷ l) n d = go (same m n) refl (differs-met l n d.1)
  where
    go : (t : Bool) → same m n ≡ t → met l n ≡ false → cond t true (met l n) ≡ false
    go true q e = absurd (d.0 (same-eq m n q))
    go false q e = e

-- one behind others that it differs from
pub differs-last : (m : List ℕ) (l : List (List ℕ)) (n : List ℕ) → Differs m l → (m ≡ n → ⊥) → Differs m (l ++ (n ∷ []))
differs-last m [] n d h = (λ e. h (sym e), tt)
differs-last m (k ∷ l) n d h = (d.0, differs-last m l n d.1 h)

pub all-last : (l : List (List ℕ)) (n : List ℕ) → AllDiffer l → Differs n l → AllDiffer (l ++ (n ∷ []))
all-last [] n a d = (tt, tt)
all-last (m ∷ l) n a d = (differs-last m l n a.0 d.0, all-last l n a.1 d.1)

-- of lists in which no two are one, the first part is one too, and what stands behind it differs from it
differs-first : (m : List ℕ) (l r : List (List ℕ)) → Differs m (l ++ r) → Differs m l
differs-first m [] r d = tt
differs-first m (k ∷ l) r d = (d.0, differs-first m l r d.1)

pub all_first : (l r : List (List ℕ)) → AllDiffer (l ++ r) → AllDiffer l
all_first [] r a = tt
all_first (m ∷ l) r a = (differs-first m l r a.0, all_first l r a.1)

differs-behind : (m : List ℕ) (l : List (List ℕ)) (n : List ℕ) (r : List (List ℕ)) → Differs m (l ++ (n ∷ r)) → n ≡ m → ⊥
differs-behind m [] n r d = d.0
differs-behind m (k ∷ l) n r d = differs-behind m l n r d.1

pub all-behind : (l : List (List ℕ)) (n : List ℕ) (r : List (List ℕ)) → AllDiffer (l ++ (n ∷ r)) → Differs n l
all-behind [] n r a = tt
all-behind (m ∷ l) n r a = (λ e. differs-behind m l n r a.0 (sym e), all-behind l n r a.1)
