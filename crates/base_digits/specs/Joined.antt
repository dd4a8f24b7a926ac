-- Bytes joined to a number, the first lowest, and the digits of each. Assumes nothing.
use Rattle.std.specs.Prelude.{◌≡◌, refl, List, [], ◌∷◌, ℕ, zero, suc, ◌+◌, ◌-◌, ◌*◌, ◌/◌, ◌%◌, ◌^◌, ◌≤◌, ◌<◌, get_or}
use Rattle.std.proofs.Common.{sym, ap, ap₂, ◌∙◌, mod-lt, arith}
use Rattle.std.specs.Int.Bits.{bit_xor, differ}
use Rattle.std.proofs.lemmas.Nat.{xor_lt}
use Rattle.base_digits.specs.Digits.{digit, differ-none, digit-xor, digit-shr, digit-mod, digit-high, digit-shl-low, digit-shl-high}

-- the lowest byte of x put below q
unfoldable pub grown : ℕ → ℕ → ℕ
grown q x = bit_xor (q * 2 ^ 8 % 2 ^ 64) (x % 256)

-- the lowest bytes of numbers, the first lowest
abbrev pub joined : List ℕ → ℕ
joined [] = 0
joined (b ∷ bs) = grown (joined bs) b
