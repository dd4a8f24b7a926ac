-- Which states the calls shuffle: from the smallest whose elements come from different bytes to the largest there is; and the law
-- that callers cite. Assumes nothing.
use Rattle.std.specs.Prelude.{◌≡◌, refl, Bool, true, false, cond, List, ℕ, ◌≤◌, ltb, leb}
use Rattle.std.proofs.Common.{arith, ltb-false, leb-true, le-ltb, le-leb}
use Rattle.gage_cells.specs.Sizes.{LARGEST}
use Rattle.gage_shuffle.specs.Sizes.{SMALLEST}

unfoldable pub wide : ℕ → Bool
wide n = cond (ltb n SMALLEST) false (leb n LARGEST)

unfoldable pub where_wide : ℕ → List ℕ → List ℕ → List ℕ
where_wide n there other = cond (wide n) there other

pub wide-sizes : (n : ℕ) → wide n ≡ true → (SMALLEST ≤ n) × (n ≤ LARGEST)
unfolding wide
wide-sizes n e = decided (ltb n SMALLEST) refl e
  where
    decided : (b : Bool) → ltb n SMALLEST ≡ b → cond b false (leb n LARGEST) ≡ true → (SMALLEST ≤ n) × (n ≤ LARGEST)
    decided true h g = absurd (let z : ◌≡◌ {A = ℕ} 0 1 = cc g in omega arith)
    decided false h g = (ltb-false n SMALLEST h, leb-true n LARGEST g)

pub where-wide : (n : ℕ) (there other : List ℕ) → SMALLEST ≤ n → n ≤ LARGEST → where_wide n there other ≡ there
unfolding wide where_wide
where-wide n there other h g = rw (le-ltb n SMALLEST h, le-leb n LARGEST g)
