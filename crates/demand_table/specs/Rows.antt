-- Document 01, 'Acceptance table': the rows that hold at every size, about substitution, padding and counts; specs/Table.antt computes the others.
-- Assumes nothing.
use Rattle.std.specs.Prelude.{◌≡◌, refl, List, ◌∷◌, ℕ, zero, suc, ◌+◌, ◌*◌, ◌/◌, length, replicate}
use Rattle.std.proofs.Common.{ap, ◌∙◌, arith}
use Rattle.gage_cells.specs.Cells.{table, cells, bytes, follow, substitute}
use Rattle.gage_sponge.specs.Padding.{padded, block_count}
use Rattle.gage_sponge.proofs.Blocks.{length-padded}
use Rattle.digest_spec.specs.Instances.{DIGEST-BITS, bit_rate, rate_of}
use Rattle.digest_spec.specs.Hashing.{digest_calls}
use Rattle.digest_sponge.specs.Calls.{digest-calls}

-- all-zero state, leader 0, gives 55 in every byte, at every size
pub zeros-by-zero : (n : ℕ) → substitute table 0 (replicate n 0x00) ≡ replicate n 0x55
unfolding substitute cells bytes follow
zeros-by-zero zero = refl
zeros-by-zero (suc n) = ap (λ (r : List ℕ). 0x55 ∷ r) (zeros-by-zero n)

-- leader 3 gives D5 then 55s
pub zeros-by-three : (n : ℕ) → substitute table 3 (replicate (suc n) 0x00) ≡ 0xD5 ∷ replicate n 0x55
unfolding substitute cells bytes follow
zeros-by-three n = ap (λ (r : List ℕ). 0xD5 ∷ r) (zeros-by-zero n)

ones-by-three : (n : ℕ) → substitute table 3 (replicate n 0xFF) ≡ replicate n 0x00
unfolding substitute cells bytes follow
ones-by-three zero = refl
ones-by-three (suc n) = ap (λ (r : List ℕ). 0x00 ∷ r) (ones-by-three n)

-- all-FF, leader 0, gives 80 then zeros
pub ones-by-zero : (n : ℕ) → substitute table 0 (replicate (suc n) 0xFF) ≡ 0x80 ∷ replicate n 0x00
unfolding substitute cells bytes follow
ones-by-zero n = ap (λ (r : List ℕ). 0x80 ∷ r) (ones-by-three n)

-- a message of n bytes, padded at the rate R, makes k blocks
abbrev pub Padding : ℕ → ℕ → ℕ → Type 0
Padding R n k = (m : List ℕ) → length m ≡ n → (block_count R m ≡ k) × (length (padded R m) ≡ k * R)

pub padding : (n : ℕ) → Padding 4 n (n / 4 + 1)
padding n m e = (ap (λ (l : ℕ). l / 4 + 1) e, length-padded 4 m (omega arith) ∙ ap (λ (l : ℕ). (l / 4 + 1) * 4) e)

-- the digest of a message of n bytes by instance i takes k calls of the permutation
abbrev pub Calls : ℕ → ℕ → ℕ → Type 0
Calls i n k = (m : List ℕ) → length m ≡ n → digest_calls i m ≡ k

pub calls : (i n : ℕ) → Calls i n (n / rate_of i + 1 + DIGEST-BITS / bit_rate i)
calls i n m e = digest-calls i m ∙ ap (λ (l : ℕ). l / rate_of i + 1 + DIGEST-BITS / bit_rate i) e
