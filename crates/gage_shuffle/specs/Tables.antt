-- The rule of the tables of places, proved over each whole table by one computed test: they are permutations of 1 to 8. The inverse rests
-- on it (Bits.antt). Assumes nothing.
use Rattle.std.specs.Prelude.{◌≡◌, refl, Bool, List, ℕ, suc, ◌-◌, ◌≤◌, ◌<◌, T, eqb, leb, length}
use Rattle.std.proofs.Common.{subst, arith}
use Rattle.std.proofs.Math.Dec.{eqb→eq, leb→le}
use Rattle.std.proofs.Math.ListN.{get_or}
use Rattle.base_lists.specs.Table.{at, both, both_left, both_right, every}
use Rattle.gage_shuffle.specs.Shuffling.{BITS, places, comings, rights}
use Rattle.gage_shuffle.specs.Places.{times, Once}

-- at entry k: place k + 1 is taken once, and the entry is a place
once : List ℕ → ℕ → ℕ → Bool
once ps k p = both (eqb (times (suc k) ps) 1) (both (leb 1 p) (leb p BITS))

module _ (ps : List ℕ) (long : length ps ≡ BITS) (t : T (every (once ps) 0 ps)) where
  taken : (k : ℕ) → k < length ps → times (suc k) ps ≡ 1
  unfolding once
  taken k h = eqb→eq (times (suc k) ps) 1 (both_left (eqb (times (suc k) ps) 1) _ (at (once ps) ps t k h))

  within : (k : ℕ) → k < length ps → (1 ≤ get_or ps k 0) × (get_or ps k 0 ≤ BITS)
  unfolding once
  within k h =
      let p = get_or ps k 0 in
      let u = both_right (eqb (times (suc k) ps) 1) (both (leb 1 p) (leb p BITS)) (at (once ps) ps t k h) in
      (leb→le 1 p (both_left (leb 1 p) (leb p BITS) u), leb→le p BITS (both_right (leb 1 p) (leb p BITS) u))

  rule : Once BITS ps
  rule = record {
    long = long;
    within = within;
    taken = λ p h g.
        let e : suc (p - 1) ≡ p = omega arith in
        subst (λ (q : ℕ). times q ps ≡ 1) e (taken (p - 1) (omega arith));
  }

-- each of the places 1 to 8 is taken once
pub place-once : Once BITS places
unfolding once
place-once = rule places refl tt

-- and an element comes from each once
pub coming-once : Once BITS comings
unfolding once
coming-once = rule comings refl tt

-- and a byte has each once, from the right too
pub right-once : Once BITS rights
unfolding once
right-once = rule rights refl tt
