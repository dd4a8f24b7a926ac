-- The trade's words byte by byte: what a transit symbol, a digit and any other byte at a line's start do to each. Assumes nothing.
use Rattle.std.specs.Prelude.{◌≡◌, refl, Bool, true, false, cond, List, [], ◌∷◌, ℕ, suc, ◌≤◌, leb}
use Rattle.std.proofs.Common.{arith, leb-true, le-leb, eqb-true, ne_eqb}
use Rattle.std.proofs.lemmas.Bool.{eqb-false}
use Rattle.base_lists.specs.Never.{never}
use Rattle.line_spec.specs.Lines.{first_digit, last_digit, transit, is_digit, is_transit, any_digit, all_digits, transits, before, behind}

-- the test of a digit says that it is from the first to the last
pub is_digit_lem : (b : ℕ) → is_digit b ≡ true → (first_digit ≤ b) × (b ≤ last_digit)
unfolding is_digit
is_digit_lem b = go (leb first_digit b) refl (leb b last_digit) refl
  where
    go : (t : Bool) → leb first_digit b ≡ t → (u : Bool) → leb b last_digit ≡ u → cond t u false ≡ true → (first_digit ≤ b) × (b ≤ last_digit)
    go true p true q e = (leb-true first_digit b p, leb-true b last_digit q)
    go true p false q e = never e
    go false p u q e = never e

pub digit-is : (b : ℕ) → first_digit ≤ b → b ≤ last_digit → is_digit b ≡ true
unfolding is_digit
digit-is b l h = rw (le-leb first_digit b l, le-leb b last_digit h)

pub digit_not : (b : ℕ) → (first_digit ≤ b → b ≤ last_digit → ⊥) → is_digit b ≡ false
digit_not b n = go (is_digit b) refl
  where
    go : (t : Bool) → is_digit b ≡ t → is_digit b ≡ false
    go true p = absurd (n (is_digit_lem b p).0 (is_digit_lem b p).1)
    go false p = p

-- the test of the transit symbol says what it is
pub is-transit : (b : ℕ) → is_transit b ≡ true → b ≡ transit
unfolding is_transit
is-transit b e = eqb-true b transit e

pub transit-is : (b : ℕ) → b ≡ transit → is_transit b ≡ true
unfolding is_transit
transit-is b e = rw e

pub not-transit : (b : ℕ) → is_transit b ≡ false → b ≡ transit → ⊥
unfolding is_transit
not-transit b e = eqb-false b transit e

pub transit-apart : (b : ℕ) → (b ≡ transit → ⊥) → is_transit b ≡ false
unfolding is_transit
transit-apart b n = ne_eqb b transit n

-- no digit is the transit symbol
pub digit-apart : (b : ℕ) → is_digit b ≡ true → is_transit b ≡ false
unfolding is_transit
digit-apart b e = let h : b ≤ last_digit = (is_digit_lem b e).1 in ne_eqb b transit (λ i. omega (arith, i))

module _ (b : ℕ) (s : List ℕ) where
  module _ (t : is_transit b ≡ true) where
    pub transits-more : transits (b ∷ s) ≡ suc (transits s)
    unfolding transits
    transits-more = rw t

    pub before-none : before (b ∷ s) ≡ []
    unfolding before
    before-none = rw t

    pub behind-all : behind (b ∷ s) ≡ s
    unfolding behind
    behind-all = rw t

  module _ (t : is_transit b ≡ false) where
    pub transits-same : transits (b ∷ s) ≡ transits s
    unfolding transits
    transits-same = rw t

    pub before_more : before (b ∷ s) ≡ b ∷ before s
    unfolding before
    before_more = rw t

    pub behind-same : behind (b ∷ s) ≡ behind s
    unfolding behind
    behind-same = rw t

  module _ (d : is_digit b ≡ true) where
    pub any_found : any_digit (b ∷ s) ≡ true
    unfolding any_digit
    any_found = rw d

    pub all_same : all_digits (b ∷ s) ≡ all_digits s
    unfolding all_digits
    all_same = rw d

  module _ (d : is_digit b ≡ false) where
    pub any_same : any_digit (b ∷ s) ≡ any_digit s
    unfolding any_digit
    any_same = rw d

    pub all-broken : all_digits (b ∷ s) ≡ false
    unfolding all_digits
    all-broken = rw d
