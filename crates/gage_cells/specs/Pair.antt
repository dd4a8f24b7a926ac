-- The product of a pair of cells by their bits is the table's: a test at each pair. Assumes nothing.
use Rattle.std.specs.Prelude.{◌≡◌, Bool, ℕ, ◌+◌, ◌*◌, ◌/◌, ◌^◌, ◌<◌, ◌%◌, T, eqb, replicate}
use Rattle.std.proofs.Common.{arith, eqb→eq}
use Rattle.std.specs.Int.Bits.{bit_and, bit_xor}
use Rattle.base_lists.specs.Table.{at}
use Rattle.gage_cells.specs.Cells.{star, table}

-- x * y by their bits, of numbers that are no cells too
unfoldable pub product : ℕ → ℕ → ℕ
product x y =
    let d : ℕ = bit_and (bit_and (bit_xor y (y / 2 ^ 1)) x) 1 in
    bit_xor (bit_xor (bit_xor (bit_xor (bit_xor y x) d) (d * 2 ^ 1 % 2 ^ 8)) (x / 2 ^ 1)) 1

pair_test : ℕ → ℕ → Bool
pair_test k z = eqb (product (k / 4) (k % 4)) (star table (k / 4) (k % 4))

-- of cells it is the product
pub product_is : (x y : ℕ) → x < 4 → y < 4 → product x y ≡ star table x y
unfolding pair_test product
product_is x y h g =
    let p : (x * 4 + y) / 4 ≡ x = omega arith in
    let q : (x * 4 + y) % 4 ≡ y = omega arith in
    let t : T (eqb (product ((x * 4 + y) / 4) ((x * 4 + y) % 4)) (star table ((x * 4 + y) / 4) ((x * 4 + y) % 4))) =
    at pair_test (replicate 16 0) tt (x * 4 + y) (omega arith) in
    eqb→eq (product x y) (star table x y) (rw (p, q) at t)
