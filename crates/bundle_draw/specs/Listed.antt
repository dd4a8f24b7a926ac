-- Laws of lists made by a rule: their length, their elements, and what a loop that follows the rule leaves. Assumes nothing.
use Rattle.std.specs.Prelude.{◌≡◌, refl, List, [], ◌∷◌, ◌++◌, ℕ, zero, suc, ◌+◌, ◌≤◌, ◌<◌, length, get_or, take}
use Rattle.std.proofs.Common.{sym, ap, ap₂, ◌∙◌, not-suc-le-zero, arith, length-append, take-suc, take_all, get_or-append-add}
use Rattle.std.proofs.Math.Decide.{dec_lt}
use Rattle.std.proofs.Math.ListN.{get_or-append}
use Rattle.bundle_draw.specs.Drawing.{listed}

pub length-listed : (f : ℕ → ℕ) (n : ℕ) → length (listed f n) ≡ n
unfolding listed
length-listed f zero = refl
length-listed f (suc n) = length-append (listed f n) (f n ∷ []) ∙ omega (arith, length-listed f n)

-- the first n elements of a list that follows the rule so far
pub upto-listed : (f : ℕ → ℕ) (l : List ℕ) (n : ℕ) → ((k : ℕ) → k < n → get_or l k 0 ≡ f k) → n ≤ length l → take n l ≡ listed f n
unfolding listed
upto-listed f l zero u h = refl
upto-listed f l (suc n) u h =
    take-suc l n 0 h ∙ ap₂ (λ (a : List ℕ) (x : ℕ). a ++ (x ∷ [])) (upto-listed f l n (λ k g. u k (omega arith)) (omega arith)) (u n (omega arith))

-- a list is what its own elements make
pub listed-self : (l : List ℕ) → listed (λ k. get_or l k 0) (length l) ≡ l
listed-self l = sym (upto-listed (λ k. get_or l k 0) l (length l) (λ k h. refl) (omega arith)) ∙ take_all (length l) l (omega arith)

-- two rules that agree so far make one list
pub listed-agree : (f g : ℕ → ℕ) (n : ℕ) → ((k : ℕ) → k < n → f k ≡ g k) → listed f n ≡ listed g n
unfolding listed
listed-agree f g zero e = refl
listed-agree f g (suc n) e = ap₂ (λ (a : List ℕ) (x : ℕ). a ++ (x ∷ [])) (listed-agree f g n (λ k h. e k (omega arith))) (e n (omega arith))

-- element i
pub get_d-listed : (f : ℕ → ℕ) (n i : ℕ) → i < n → get_or (listed f n) i 0 ≡ f i
unfolding listed
get_d-listed f zero i h = absurd (not-suc-le-zero h)
get_d-listed f (suc n) i h = by (dec_lt i n) (get_d-listed f n i)
  where
    by : Dec (i < n) → (i < n → get_or (listed f n) i 0 ≡ f i) → get_or (listed f n ++ (f n ∷ [])) i 0 ≡ f i
    by (yes p) rest = get_or-append (listed f n) (f n ∷ []) 0 i (omega (arith, length-listed f n)) ∙ rest p
    by (no p) rest =
        let last : i ≡ n = omega (arith, p) in
        let there : i ≡ length (listed f n) + 0 = omega (arith, length-listed f n) in
        ap (λ (k : ℕ). get_or (listed f n ++ (f n ∷ [])) k 0) there ∙ get_or-append-add (listed f n) (f n ∷ []) 0 0 ∙ ap f (sym last)
