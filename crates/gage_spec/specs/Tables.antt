-- The rule of the permitted sizes, proved over the whole table by one computed test: every size is from 29 to the largest. Assumes nothing.
use Rattle.std.specs.Prelude.{◌≡◌, refl, Bool, true, false, cond, List, [], ◌∷◌, ℕ, suc, ◌≤◌, ◌<◌, T, eqb, leb}
use Rattle.std.proofs.Common.{arith, leb→le, eqb-true}
use Rattle.base_lists.specs.Table.{every, both_left, both_right}
use Rattle.gage_cells.specs.Sizes.{LARGEST}
use Rattle.gage_spec.specs.Permutation.{sizes, among, permitted}

-- a test passed
pub is_true : (b : Bool) → T b → b ≡ true
is_true true t = refl
is_true false t = absurd t

-- what holds of every number of a list holds of each among them
among-rule : (f : ℕ → Bool) (xs : List ℕ) (i n : ℕ) → T (every (λ k x. f x) i xs) → among n xs ≡ true → T (f n)
unfolding among
among-rule f [] i n t e = absurd (let z : ◌≡◌ {A = ℕ} 0 1 = cc e in omega arith)
among-rule f (x ∷ xs) i n t e =
    picked (eqb n x) refl (among-rule f xs (suc i) n (both_right (f x) (every (λ k y. f y) (suc i) xs) t)) e
  where
    picked : (b : Bool) → eqb n x ≡ b → (among n xs ≡ true → T (f n)) → cond b true (among n xs) ≡ true → T (f n)
    picked true h next g = rw (eqb-true n x h) (both_left (f x) (every (λ k y. f y) (suc i) xs) t)
    picked false h next g = next g

-- every permitted size is from 29 to the largest
pub permitted-size : (n : ℕ) → permitted n ≡ true → (29 ≤ n) × (n ≤ LARGEST)
unfolding permitted
permitted-size n e =
    (leb→le 29 n (among-rule (λ x. leb 29 x) sizes 0 n tt e), leb→le n LARGEST (among-rule (λ x. leb x LARGEST) sizes 0 n tt e))

-- a larger state is not
pub too_large : (n : ℕ) → LARGEST < n → permitted n ≡ false
too_large n h = decided (permitted n) refl
  where
    decided : (b : Bool) → permitted n ≡ b → permitted n ≡ false
    decided true e = absurd (omega (arith, (permitted-size n e).1))
    decided false e = e
