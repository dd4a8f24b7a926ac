-- Four cells put together to a byte over bits: a test at each byte. Assumes nothing.
use mathlib.Core.Path.{◌≡◌}
use mathlib.Core.Bool.{Bool}
use Prim.Native.Nat.{ℕ, ◌+◌, ◌*◌, ◌/◌, ◌^◌, ◌<◌, ◌%◌}
use native.Mathlib.Omega.{arith}
use lib.Bits.{bit_xor}
use lib.Dec.{T, eqb, eqb→eq}
use lib.ListN.{replicate}
use Rattle.base_lists.specs.Table.{at}

unfoldable pub joined : ℕ → ℕ → ℕ → ℕ → ℕ
joined a c d e = bit_xor (bit_xor (bit_xor (a * 2 ^ 6 % 2 ^ 8) (c * 2 ^ 4 % 2 ^ 8)) (d * 2 ^ 2 % 2 ^ 8)) e

join_test : ℕ → ℕ → Bool
join_test k z = eqb (joined (k / 64) (k / 16 % 4) (k / 4 % 4) (k % 4)) k

pub joined_is : (a c d e : ℕ) → a < 4 → c < 4 → d < 4 → e < 4 → joined a c d e ≡ a * 64 + c * 16 + d * 4 + e
unfolding join_test joined
joined_is a c d e ha hc hd he =
    let k : ℕ = a * 64 + c * 16 + d * 4 + e in
    let pa : k / 64 ≡ a = omega arith in
    let pc : k / 16 % 4 ≡ c = omega arith in
    let pd : k / 4 % 4 ≡ d = omega arith in
    let pe : k % 4 ≡ e = omega arith in
    let t : T (eqb (joined (k / 64) (k / 16 % 4) (k / 4 % 4) (k % 4)) k) = at join_test (replicate 256 0) tt k (omega arith) in
    eqb→eq (joined a c d e) k (rw (pa, pc, pd, pe) at t)
