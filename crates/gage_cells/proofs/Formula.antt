-- The formula over the bits of a byte is the table: a test at each cell and byte. Assumes nothing.
use mathlib.Core.Path.{◌≡◌, ap, ◌∙◌}
use mathlib.Core.Bool.{Bool}
use Prim.Native.Nat.{ℕ, ◌+◌, ◌*◌, ◌/◌, ◌^◌, ◌<◌, ◌%◌}
use native.Mathlib.Omega.{arith}
use lib.Bits.{bit_and, bit_xor}
use lib.Dec.{T, eqb, eqb→eq}
use lib.ListN.{replicate}
use Rattle.base_lists.specs.Table.{at}
use Rattle.gage_cells.specs.Cells.{table, substituted_byte}

-- the byte b after a cell that stands, shifted, in u
unfoldable pub mixed : ℕ → ℕ → ℕ
mixed u b =
    let x : ℕ = bit_xor u (b / 2 ^ 2) in
    let d : ℕ = bit_and (bit_and (bit_xor b (b / 2 ^ 1)) x) 0x55 in
    bit_xor (bit_xor (bit_xor (bit_xor (bit_xor b x) d) (d * 2 ^ 1 % 2 ^ 8)) (bit_and (x / 2 ^ 1) 0x55)) 0x55

byte_test : ℕ → ℕ → Bool
byte_test k z = eqb (mixed (k / 256 * 64) (k % 256)) (substituted_byte table (k / 256) (k % 256))

mixed-cell : (p b : ℕ) → p < 4 → b < 256 → mixed (p * 64) b ≡ substituted_byte table p b
unfolding byte_test mixed substituted_byte
mixed-cell p b h g =
    let a : (p * 256 + b) / 256 ≡ p = omega arith in
    let c : (p * 256 + b) % 256 ≡ b = omega arith in
    let t : T (eqb (mixed ((p * 256 + b) / 256 * 64) ((p * 256 + b) % 256)) (substituted_byte table ((p * 256 + b) / 256) ((p * 256 + b) % 256))) =
    at byte_test (replicate 1024 0) tt (p * 256 + b) (omega arith) in
    eqb→eq (mixed (p * 64) b) (substituted_byte table p b) (rw (a, c) at t)

-- only the last cell of the byte before counts
pub mixed-is : (p b : ℕ) → b < 256 → mixed (p * 2 ^ 6 % 2 ^ 8) b ≡ substituted_byte table (p % 4) b
mixed-is p b g =
    let e : p * 2 ^ 6 % 2 ^ 8 ≡ p % 4 * 64 = omega arith in
    ap (λ (u : ℕ). mixed u b) e ∙ mixed-cell (p % 4) b (omega arith) g
