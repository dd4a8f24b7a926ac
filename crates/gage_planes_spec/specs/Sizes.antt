-- The sizes that are permitted, by the form of their planes: at most 50 bytes, 64, or twice 34 to 36; and what is made of another size or count. Assumes
-- nothing.
use Rattle.std.specs.Prelude.{◌≡◌, refl, Bool, true, false, cond, ◌&&◌, [], ◌∷◌, ℕ, ◌+◌, ◌/◌, ◌≤◌, ◌<◌, T, leb, eqb, replicate, Ok, Err, Result, ⊤}
use Rattle.std.proofs.Common.{sym, ap, arith, leb→le, eqb→eq, leb-true, eqb-true}
use Rattle.base_lists.specs.Table.{at, both, both_left, both_right}
use Rattle.gage_spec.specs.Permutation.{LARGEST, MOST-ROUNDS, among, permitted, judged_number, judged}
use Rattle.gage_spec.specs.Tables.{permitted-size}
use Rattle.gage_spec.specs.declared.PermuteRefusal.{PermuteRefusal}
use Rattle.gage_spec.specs.declared.PermuteRefusal.TheVariants.{Size, Rounds}
use Rattle.gage_planes_spec.specs.declared.State.{State}
use Rattle.gage_planes_spec.specs.Rounds.{permuted}

-- what is done has a permitted size and a count of rounds
pub allowed : (n k : ℕ) → judged n k ≡ Ok tt → (permitted n ≡ true) × (29 ≤ n) × (n ≤ LARGEST) × (1 ≤ k) × (k ≤ MOST-ROUNDS)
unfolding judged
allowed n k e = go (permitted n) refl (leb 1 k) refl (leb k MOST-ROUNDS) refl e
  where
    go : (p : Bool) → permitted n ≡ p → (a : Bool) → leb 1 k ≡ a → (b : Bool) → leb k MOST-ROUNDS ≡ b
        → ◌≡◌ {A = Result ⊤ PermuteRefusal} (cond p (cond (a && b) (Ok tt) (Err Rounds)) (Err Size)) (Ok tt) → (permitted n ≡ true) × (29 ≤ n) × (n ≤ LARGEST) × (1 ≤ k) × (k ≤ MOST-ROUNDS)
    go true p true a true b f = (p, (permitted-size n p).0, (permitted-size n p).1, leb-true 1 k a, leb-true k MOST-ROUNDS b)
    go true p true a false b f = absurd (omega (arith, ap judged_number f))
    go true p false a t b f = absurd (omega (arith, ap judged_number f))
    go false p t a u b f = absurd (omega (arith, ap judged_number f))

-- one test at each number up to the largest size
halved : ℕ → Bool
halved n = both (eqb (n / 2 + n / 2) n) (both (leb 34 (n / 2)) (leb (n / 2) 36))

formed : ℕ → ℕ → Bool
formed n z = cond (permitted n) (cond (leb n 50) true (cond (eqb n 64) true (halved n))) true

pub wide-size : (n : ℕ) → permitted n ≡ true → 50 < n → (n ≡ 64 → ⊥) → (n / 2 + n / 2 ≡ n) × (34 ≤ n / 2) × (n / 2 ≤ 36)
unfolding formed halved permitted among
wide-size n p large other =
    go (permitted n) p (leb n 50) refl (eqb n 64) refl (at formed (replicate 73 0) tt n (omega (arith, (permitted-size n p).1)))
  where
    go : (a : Bool) → a ≡ true → (b : Bool) → leb n 50 ≡ b → (c : Bool) → eqb n 64 ≡ c → T (cond a (cond b true (cond c true (halved n))) true)
        → (n / 2 + n / 2 ≡ n) × (34 ≤ n / 2) × (n / 2 ≤ 36)
    go true a true b c d t = absurd (omega (arith, leb-true n 50 b))
    go true a false b true d t = absurd (other (eqb-true n 64 d))
    go true a false b false d t =
        let e = eqb (n / 2 + n / 2) n in
        let f = leb 34 (n / 2) in
        let g = leb (n / 2) 36 in
        let u = both_right e (both f g) t in
        (eqb→eq (n / 2 + n / 2) n (both_left e (both f g) t), leb→le 34 (n / 2) (both_left f g u), leb→le (n / 2) 36 (both_right f g u))
    go false a b c d e t = absurd (let z : ◌≡◌ {A = ℕ} 0 1 = cc a in omega arith)

-- a refusal leaves the state as it was
pub stays : (n k : ℕ) (t : State) (r : Result ⊤ PermuteRefusal) → r ≡ judged n k → (r ≡ Ok tt → ⊥) → t ≡ permuted n k t
unfolding permuted
stays n k t (Ok tt) g o = absurd (o refl)
stays n k t (Err f) g o = rw (sym g)
