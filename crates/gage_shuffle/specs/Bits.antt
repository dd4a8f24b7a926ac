-- Eight bits put together with the weights of their places, of where they come from, or from the right, and read back. Assumes nothing.
use Rattle.std.specs.Prelude.{◌≡◌, refl, Bool, List, [], ◌∷◌, ℕ, zero, suc, ◌+◌, ◌*◌, ◌/◌, ◌-◌, ◌^◌, ◌<◌, ◌%◌, eqb, length, get_or, replicate}
use Rattle.std.proofs.Common.{ap₂, add-zero, suc-add, add-suc, arith, eqb→eq}
use Rattle.base_lists.specs.Table.{at}
use Rattle.gage_shuffle.specs.Shuffling.{BITS, places, comings, rights, weights, origins, units, weighed}
use Rattle.gage_shuffle.specs.Places.{read_back, number-below}
use Rattle.gage_shuffle.specs.Tables.{place-once, coming-once, right-once}

-- the same bits make the same byte
pub weighed-by : (f g : ℕ → ℕ) (i : ℕ) (ws : List ℕ) → ((j : ℕ) → j < length ws → f (i + j) ≡ g (i + j)) → weighed f i ws ≡ weighed g i ws
unfolding weighed
weighed-by f g i [] e = refl
weighed-by f g i (w ∷ ws) e =
    ap₂ (λ (x y : ℕ). x * w + y) (rw add-zero at (e 0 (omega arith)))
    (weighed-by f g (suc i) ws (λ j h. rw (suc-add, ← add-suc) (e (suc j) (omega arith))))

-- a fact of each of 0 to 7
pub eight : (P : ℕ → Type 0) → P 0 → P 1 → P 2 → P 3 → P 4 → P 5 → P 6 → P 7 → (j : ℕ) → j < 8 → P j
eight P a b c d e f g h zero l = a
eight P a b c d e f g h (suc zero) l = b
eight P a b c d e f g h (suc (suc zero)) l = c
eight P a b c d e f g h (suc (suc (suc zero))) l = d
eight P a b c d e f g h (suc (suc (suc (suc zero)))) l = e
eight P a b c d e f g h (suc (suc (suc (suc (suc zero))))) l = f
eight P a b c d e f g h (suc (suc (suc (suc (suc (suc zero)))))) l = g
eight P a b c d e f g h (suc (suc (suc (suc (suc (suc (suc zero))))))) l = h
eight P a b c d e f g h (suc (suc (suc (suc (suc (suc (suc (suc j)))))))) l = absurd (omega arith)

-- element j + 1 is the bit that counts 2 ^ j: one test over the table
counts : ℕ → ℕ → Bool
counts j w = eqb (2 ^ (7 - (7 - j))) (get_or origins j 1)

pub origin-weight : (j : ℕ) → j < BITS → 2 ^ (7 - (7 - j)) ≡ get_or origins j 1
unfolding counts
origin-weight j h = eqb→eq (2 ^ (7 - (7 - j))) (get_or origins j 1) (at counts origins tt j h)

module _ (b : ℕ → ℕ) (bits : (j : ℕ) → b j < 2) where
  -- a bit read back at its place, and where it came from
  pub placed-back : (j : ℕ) → j < BITS → weighed b 0 weights / get_or weights j 1 % 2 ≡ b j
  placed-back = read_back BITS places place-once b bits

  pub origin-back : (j : ℕ) → j < BITS → weighed b 0 origins / get_or origins j 1 % 2 ≡ b j
  origin-back = read_back BITS comings coming-once b bits

  pub unit-back : (j : ℕ) → j < BITS → weighed b 0 units / get_or units j 1 % 2 ≡ b j
  unit-back = read_back BITS rights right-once b bits

  -- eight bits make a byte
  pub placed_below : weighed b 0 weights < 256
  placed_below = number-below BITS places place-once b bits

  pub origin-below : weighed b 0 origins < 256
  origin-below = number-below BITS comings coming-once b bits

  pub unit-below : weighed b 0 units < 256
  unit-below = number-below BITS rights right-once b bits

-- a byte is the sum of its bits, whichever of the weights they have: one test at each of 256
split : List ℕ → ℕ → ℕ
split ws x = weighed (λ j. x / get_or ws j 1 % 2) 0 ws

whole : List ℕ → ℕ → ℕ → Bool
whole ws x z = eqb (split ws x) x

pub placed-whole : (x : ℕ) → x < 256 → weighed (λ j. x / get_or weights j 1 % 2) 0 weights ≡ x
unfolding split whole weighed
placed-whole x h = eqb→eq (split weights x) x (at (whole weights) (replicate 256 0) tt x h)

pub origin-whole : (x : ℕ) → x < 256 → weighed (λ j. x / get_or origins j 1 % 2) 0 origins ≡ x
unfolding split whole weighed
origin-whole x h = eqb→eq (split origins x) x (at (whole origins) (replicate 256 0) tt x h)

pub unit-whole : (x : ℕ) → x < 256 → weighed (λ j. x / get_or units j 1 % 2) 0 units ≡ x
unfolding split whole weighed
unit-whole x h = eqb→eq (split units x) x (at (whole units) (replicate 256 0) tt x h)
