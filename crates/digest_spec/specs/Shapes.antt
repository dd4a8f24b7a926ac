-- The rule of the instance table, proved over all of it by one computed test: state size and rate are whole bytes, the size is
-- permitted, the rate is at most the largest and makes the digest in whole outputs. Assumes nothing.
use Rattle.std.specs.Prelude.{◌≡◌, refl, Bool, true, false, cond, ℕ, suc, ◌-◌, ◌*◌, ◌≤◌, ◌<◌, T, eqb, ltb, leb, length, replicate}
use Rattle.std.proofs.Common.{subst, arith, eqb→eq, ltb→lt, leb→le, ltb-false}
use Rattle.base_lists.specs.Table.{at, both, both_left, both_right}
use Rattle.gage_spec.specs.Permutation.{permitted, among}
use Rattle.gage_spec.specs.Tables.{is_true}
use Rattle.gage_sponge.specs.Padding.{LARGEST-RATE}
use Rattle.digest_spec.specs.Instances.{BYTE, DIGEST, instances, unknown, bit_size, bit_rate, size_of, rate_of, outputs_of}

-- what a sponge of size n and rate R in bytes needs
pub record Fits (n R : ℕ) : Type 0 where
  pub permits : permitted n ≡ true
  pub some : 0 < R
  pub least : R ≤ LARGEST-RATE

-- the same of instance i, which is given in bits
pub record Whole (i : ℕ) : Type 0 where
  pub bytes : bit_size i ≡ BYTE * size_of i
  pub rate : bit_rate i ≡ BYTE * rate_of i
  pub fits : Fits (size_of i) (rate_of i)
  pub makes : outputs_of i * rate_of i ≡ DIGEST

whole : ℕ → Bool
whole i =
    both (eqb (bit_size i) (BYTE * size_of i))
    (both (eqb (bit_rate i) (BYTE * rate_of i))
    (both (permitted (size_of i))
    (both (ltb 0 (rate_of i))
    (both (leb (rate_of i) LARGEST-RATE)
    (eqb (outputs_of i * rate_of i) DIGEST)))))

-- an instance that is not unknown is one of the table's rows, counted from 1
pub known-row : (i : ℕ) → unknown i ≡ false → (1 ≤ i) × (i ≤ length instances)
unfolding unknown
known-row i e = row (ltb i 1) refl e
  where
    row : (b : Bool) → ltb i 1 ≡ b → cond b true (ltb (length instances) i) ≡ false → (1 ≤ i) × (i ≤ length instances)
    row true h g = absurd (let z : ◌≡◌ {A = ℕ} 0 1 = cc g in omega arith)
    row false h g = (ltb-false i 1 h, ltb-false (length instances) i g)

-- the rule at each row, tested over all of them
row-whole : (k : ℕ) → k < length instances → T (whole (suc k))
unfolding whole bit_size bit_rate size_of rate_of outputs_of permitted among
row-whole k h = at (λ j x. whole (suc j)) (replicate (length instances) 0) tt k h

pub known-whole : (i : ℕ) → unknown i ≡ false → Whole i
unfolding whole
known-whole i e =
    let r = known-row i e in
    let k : suc (i - 1) ≡ i = omega arith in
    let t : T (whole i) = subst (λ (j : ℕ). T (whole j)) k (row-whole (i - 1) (omega arith)) in
    let t₁ = both_right (eqb (bit_size i) (BYTE * size_of i)) _ t in
    let t₂ = both_right (eqb (bit_rate i) (BYTE * rate_of i)) _ t₁ in
    let t₃ = both_right (permitted (size_of i)) _ t₂ in
    let t₄ = both_right (ltb 0 (rate_of i)) _ t₃ in
    record {
      bytes = eqb→eq (bit_size i) (BYTE * size_of i) (both_left (eqb (bit_size i) (BYTE * size_of i)) _ t);
      rate = eqb→eq (bit_rate i) (BYTE * rate_of i) (both_left (eqb (bit_rate i) (BYTE * rate_of i)) _ t₁);
      fits = record {
        permits = is_true (permitted (size_of i)) (both_left (permitted (size_of i)) _ t₂);
        some = ltb→lt 0 (rate_of i) (both_left (ltb 0 (rate_of i)) _ t₃);
        least = leb→le (rate_of i) LARGEST-RATE (both_left (leb (rate_of i) LARGEST-RATE) _ t₄);
      };
      makes = eqb→eq (outputs_of i * rate_of i) DIGEST (both_right (leb (rate_of i) LARGEST-RATE) _ t₄);
    }
