-- The decimal text of every number of 64 bits is of that number: read digit by digit it gives the number again. Assumes nothing.
use Rattle.std.specs.Prelude.{◌≡◌, refl, Bool, true, false, cond, List, [], ◌∷◌, ◌++◌, ℕ, zero, suc, ◌+◌, ◌-◌, ◌*◌, ◌/◌, ◌%◌, ◌^◌, ◌<◌, ltb}
use Rattle.std.proofs.Common.{◌∙◌, pow-suc, arith}
use Rattle.tool_row.specs.Rows.{zero_digit, digits_in, most_digits, decimal}

-- the number that digits are, behind the digits of v
unfoldable pub value_from : ℕ → List ℕ → ℕ
value_from v [] = v
value_from v (d ∷ l) = value_from (10 * v + (d - zero_digit)) l

-- one digit more behind others
value-more : (v : ℕ) (l : List ℕ) (d : ℕ) → value_from v (l ++ (d ∷ [])) ≡ 10 * value_from v l + (d - zero_digit)
unfolding value_from
value-more v [] d = refl
value-more v (a ∷ l) d = value-more (10 * v + (a - zero_digit)) l d

digits_value : (k n : ℕ) → n < 10 ^ k → value_from 0 (digits_in k n) ≡ n
unfolding value_from digits_in
digits_value zero n h = omega (arith, h)
digits_value (suc k) n h = go (ltb n 10) refl (digits_in k (n / 10)) (digits_value k (n / 10) (less (10 ^ k) (h' (pow-suc 10 k))))
  where
    h' : 10 ^ suc k ≡ 10 ^ k * 10 → n < 10 ^ k * 10
    h' e = omega (arith, e, h)

    less : (p : ℕ) → n < p * 10 → n / 10 < p
    less p g = omega (arith, g)

    go : (t : Bool) → ltb n 10 ≡ t → (l : List ℕ) → value_from 0 l ≡ n / 10
        → value_from 0 (cond t ((zero_digit + n) ∷ []) (l ++ ((zero_digit + n % 10) ∷ []))) ≡ n
    go true e l i = omega arith
    go false e l i = value-more 0 l (zero_digit + n % 10) ∙ omega (arith, i)

pub decimal-value : (n : ℕ) → n < 2 ^ 64 → value_from 0 (decimal n) ≡ n
decimal-value n h = digits_value most_digits n (omega (arith, h))
