-- Bits at places 1 to n of a number, place 1 the leftmost: the number that they make, and each of them read back; and a table of places,
-- each of which is taken once, so that the bits it puts there are read back too. Assumes nothing.
use Rattle.std.specs.Prelude.{◌≡◌, Bool, eqb, length, get_or}
use Rattle.std.proofs.Math.Path.{refl}
use Rattle.std.proofs.Common.{sym, ap, ◌∙◌, not-suc-le-zero, le_of_suc-le-suc, zero-add, add-suc, mul_left_comm, div-one, arith}
use Rattle.std.proofs.Math.Bool.{true, false, cond}
use mathlib.Core.List.{List, [], ◌∷◌, map}
use Prim.Native.Nat.{ℕ, zero, suc, ◌+◌, ◌*◌, ◌/◌, ◌-◌, ◌^◌, ◌≤◌, ◌<◌, ◌%◌}
use Rattle.std.proofs.Math.Nat.{add-zero, suc-add, pow-succ', div-div-eq-div-mul}
use Rattle.std.proofs.Math.Decide.{dec_lt}
use borrow.Author.Tests.{eq-eqb, eqb-true}
use Rattle.gage_shuffle.specs.Shuffling.{weighed}

-- how often x stands in a list
abbrev pub times : ℕ → List ℕ → ℕ
times x [] = 0
times x (y ∷ r) = cond (eqb x y) (suc (times x r)) (times x r)

-- the rule of a table of n places: there are n entries from 1 to n, and each of 1 to n is taken once
pub record Once (n : ℕ) (ps : List ℕ) : Type 0 where
  pub long : length ps ≡ n
  pub within : (j : ℕ) → j < length ps → (1 ≤ get_or ps j 0) × (get_or ps j 0 ≤ n)
  pub taken : (p : ℕ) → 1 ≤ p → p ≤ n → times p ps ≡ 1

-- the number whose bits are c 1 to c n
unfoldable number : (ℕ → ℕ) → ℕ → ℕ
number c zero = 0
number c (suc n) = 2 * number c n + c (suc n)

-- a place further left counts twice as much
doubled : (n q : ℕ) → q ≤ n → 2 ^ (suc n - q) ≡ 2 * 2 ^ (n - q)
doubled n q h = let e : suc n - q ≡ suc (n - q) = omega arith in rw e (pow-succ' 2 (n - q))

last : (n : ℕ) → 2 ^ (suc n - suc n) ≡ 1
last n = let e : suc n - suc n ≡ 0 = omega arith in rw e

halved : (x y : ℕ) → y < 2 → (2 * x + y) / 2 ≡ x
halved x y h = omega arith

digit-back : (c : ℕ → ℕ) (n : ℕ) → ((q : ℕ) → 1 ≤ q → q ≤ n → c q < 2) → (q : ℕ) → 1 ≤ q → q ≤ n → number c n / 2 ^ (n - q) % 2 ≡ c q
unfolding number
digit-back c zero b q h g = absurd (omega arith)
digit-back c (suc n) b q h g = elim (dec_lt n q) [
  | yes p ↦
      let e : q ≡ suc n = omega (arith, p) in
      let d : c (suc n) < 2 = b (suc n) (omega arith) (omega arith) in
      rw (e, last n, div-one) (omega arith)
  | no p ↦
      let l : q ≤ n = omega (arith, p) in
      rw (
        doubled n q l,
        ← div-div-eq-div-mul (2 * number c n + c (suc n)) 2 (2 ^ (n - q)),
        halved (number c n) (c (suc n)) (b (suc n) (omega arith) (omega arith)),
      )
      (digit-back c n (λ k i j. b k i (omega arith)) q h l)
]

digits-below : (c : ℕ → ℕ) (n : ℕ) → ((q : ℕ) → 1 ≤ q → q ≤ n → c q < 2) → number c n < 2 ^ n
unfolding number
digits-below c zero b = omega arith
digits-below c (suc n) b =
    rw (pow-succ' 2 n) (omega (arith, digits-below c n (λ k i j. b k i (omega arith)), b (suc n) (omega arith) (omega arith)))

-- x at place p
alone : ℕ → ℕ → ℕ → ℕ
alone p x q = cond (eqb q p) x 0

alone-there : (p x : ℕ) → alone p x p ≡ x
unfolding alone
alone-there p x = rw (eq-eqb p p refl)

alone-else : (p x q : ℕ) → (q ≡ p → ⊥) → alone p x q ≡ 0
unfolding alone
alone-else p x q h = decided (eqb q p) refl
  where
    decided : (t : Bool) → eqb q p ≡ t → cond t x 0 ≡ 0
    decided true e = absurd (h (eqb-true q p e))
    decided false e = refl

-- one more bit
number-beyond : (p x : ℕ) (c : ℕ → ℕ) (n : ℕ) → n < p → number (λ q. alone p x q + c q) n ≡ number c n
unfolding number
number-beyond p x c zero h = refl
number-beyond p x c (suc n) h =
    omega (arith, number-beyond p x c n (omega arith), alone-else p x (suc n) (λ e. omega (arith, e)))

number_more : (p x : ℕ) (c : ℕ → ℕ) (n : ℕ) → 1 ≤ p → p ≤ n → number (λ q. alone p x q + c q) n ≡ x * 2 ^ (n - p) + number c n
unfolding number
number_more p x c zero h g = absurd (omega arith)
number_more p x c (suc n) h g = elim (dec_lt n p) [
  | yes l ↦
      let e : p ≡ suc n = omega (arith, l) in
      let one : 2 ^ (suc n - p) ≡ 1 = rw (e, last n) in
      let there : alone p x (suc n) ≡ x = rw (← e) (alone-there p x) in
      rw one (omega (arith, number-beyond p x c n (omega arith), there))
  | no l ↦
      let k : p ≤ n = omega (arith, l) in
      rw (doubled n p k, mul_left_comm x 2 (2 ^ (n - p)))
      (omega (arith, number_more p x c n h k, alone-else p x (suc n) (λ e. omega (arith, e))))
]

-- what stands at a place, where the bits b i, b (i + 1), .. go to a list of places
standing : (ℕ → ℕ) → ℕ → List ℕ → ℕ → ℕ
standing b i [] q = 0
standing b i (p ∷ ps) q = alone p (b i) q + standing b (suc i) ps q

number-none : (n : ℕ) → number (λ q. 0) n ≡ 0
unfolding number
number-none zero = refl
number-none (suc n) = omega (arith, number-none n)

weighed-standing : (n : ℕ) (b : ℕ → ℕ) (i : ℕ) (ps : List ℕ) → ((j : ℕ) → j < length ps → (1 ≤ get_or ps j 0) × (get_or ps j 0 ≤ n))
    → weighed b i (map (λ p. 2 ^ (n - p)) ps) ≡ number (standing b i ps) n
unfolding weighed standing
weighed-standing n b i [] w = sym (number-none n)
weighed-standing n b i (p ∷ ps) w =
    let h = w 0 (omega arith) in
    ap (λ (x : ℕ). b i * 2 ^ (n - p) + x) (weighed-standing n b (suc i) ps (λ j l. w (suc j) (omega arith)))
    ∙ sym (number_more p (b i) (standing b (suc i) ps) n h.0 h.1)

module _ (b : ℕ → ℕ) where
  standing-none : (i : ℕ) (ps : List ℕ) (q : ℕ) → times q ps ≡ 0 → standing b i ps q ≡ 0
  unfolding standing alone
  standing-none i [] q e = refl
  standing-none i (p ∷ ps) q e = decided (eqb q p) e (standing-none (suc i) ps q)
    where
      decided : (t : Bool) → cond t (suc (times q ps)) (times q ps) ≡ 0 → (times q ps ≡ 0 → standing b (suc i) ps q ≡ 0)
          → cond t (b i) 0 + standing b (suc i) ps q ≡ 0
      decided true f next = absurd (omega arith)
      decided false f next = omega (arith, next f)

  some : (ps : List ℕ) (q j : ℕ) → times q ps ≡ 0 → j < length ps → get_or ps j 0 ≡ q → ⊥
  some [] q j e h g = not-suc-le-zero h
  some (p ∷ ps) q zero e h g = let t = eq-eqb q p (sym g) in let f : ◌≡◌ {A = ℕ} (suc (times q ps)) 0 = rw t at e in omega arith
  some (p ∷ ps) q (suc j) e h g = decided (eqb q p) e (λ f. some ps q j f (le_of_suc-le-suc h) g)
    where
      decided : (t : Bool) → cond t (suc (times q ps)) (times q ps) ≡ 0 → (times q ps ≡ 0 → ⊥) → ⊥
      decided true f next = omega arith
      decided false f next = next f

  standing-once : (i : ℕ) (ps : List ℕ) (q j : ℕ) → times q ps ≡ 1 → j < length ps → get_or ps j 0 ≡ q → standing b i ps q ≡ b (i + j)
  unfolding standing alone
  standing-once i [] q j e h g = absurd (not-suc-le-zero h)
  standing-once i (p ∷ ps) q zero e h g =
      let t = eq-eqb q p (sym g) in
      let f : suc (times q ps) ≡ 1 = rw t at e in
      rw (t, add-zero i) (omega (arith, standing-none (suc i) ps q (omega arith)))
  standing-once i (p ∷ ps) q (suc j) e h g = decided (eqb q p) e (λ f. standing-once (suc i) ps q j f (le_of_suc-le-suc h) g)
    where
      decided : (t : Bool) → cond t (suc (times q ps)) (times q ps) ≡ 1 → (times q ps ≡ 1 → standing b (suc i) ps q ≡ b (suc i + j))
          → cond t (b i) 0 + standing b (suc i) ps q ≡ b (i + suc j)
      decided true f next = absurd (some ps q j (omega arith) (le_of_suc-le-suc h) g)
      decided false f next = rw (add-suc i j, ← suc-add i j) (omega (arith, next f))

  standing-bit : ((j : ℕ) → b j < 2) → (i : ℕ) (ps : List ℕ) (q : ℕ) → times q ps ≡ 1 → standing b i ps q < 2
  unfolding standing alone
  standing-bit bits i [] q e = absurd (omega arith)
  standing-bit bits i (p ∷ ps) q e = decided (eqb q p) e (standing-bit bits (suc i) ps q)
    where
      decided : (t : Bool) → cond t (suc (times q ps)) (times q ps) ≡ 1 → (times q ps ≡ 1 → standing b (suc i) ps q < 2)
          → cond t (b i) 0 + standing b (suc i) ps q < 2
      decided true f next = omega (arith, standing-none (suc i) ps q (omega arith), bits i)
      decided false f next = omega (arith, next f)

map_at : (f : ℕ → ℕ) (ps : List ℕ) (j d : ℕ) → j < length ps → get_or (map f ps) j d ≡ f (get_or ps j 0)
map_at f [] j d h = absurd (not-suc-le-zero h)
map_at f (p ∷ ps) zero d h = refl
map_at f (p ∷ ps) (suc j) d h = map_at f ps j d (le_of_suc-le-suc h)

-- bits that go to the places of a table that keeps the rule
module _ (n : ℕ) (ps : List ℕ) (once : Once n ps) (b : ℕ → ℕ) (bits : (j : ℕ) → b j < 2) where
  digit : (q : ℕ) → 1 ≤ q → q ≤ n → standing b 0 ps q < 2
  digit q h g = standing-bit b bits 0 ps q (once.taken q h g)

  -- each is read back at its place
  pub read_back : (j : ℕ) → j < n → weighed b 0 (map (λ p. 2 ^ (n - p)) ps) / get_or (map (λ p. 2 ^ (n - p)) ps) j 1 % 2 ≡ b j
  read_back j h =
      let l : j < length ps = rw once.long h in
      let w = once.within j l in
      let p = get_or ps j 0 in
      rw (map_at (λ p. 2 ^ (n - p)) ps j 1 l, weighed-standing n b 0 ps once.within)
      (digit-back (standing b 0 ps) n digit p w.0 w.1
      ∙ standing-once b 0 ps p j (once.taken p w.0 w.1) l refl ∙ rw zero-add)

  -- and they make a number of n bits
  pub number-below : weighed b 0 (map (λ p. 2 ^ (n - p)) ps) < 2 ^ n
  number-below = rw (weighed-standing n b 0 ps once.within) (digits-below (standing b 0 ps) n digit)
