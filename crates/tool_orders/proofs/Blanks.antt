-- The first blank is where `position` finds it, and the length where it finds none. Assumes nothing.
use Rattle.std.specs.Prelude.{◌≡◌, Bool, true, false, not, cond, List, [], ◌∷◌, ℕ, suc, ◌+◌, ◌≤◌, eqb, ltb, length, Option, Some, None}
use Rattle.std.proofs.Math.Path.{refl}
use Rattle.std.proofs.Common.{arith, ltb-false}
use Rattle.std.specs.List.{position_or_len}
use Rattle.std.specs.Option.{unwrap_or}
use Rattle.tool_orders.specs.Orders.{blank, blank_at}
use Rattle.tool_orders.specs.Rows.{blank-within}

blank_position : (row : List ℕ) → position_or_len (λ c. eqb c blank) row ≡ blank_at row
unfolding blank_at
blank_position [] = refl
blank_position (b ∷ s) = go (eqb b blank) (blank_position s)
  where
    go : (t : Bool) {m n : ℕ} → m ≡ n → cond (not t) (1 + m) 0 ≡ cond t 0 (suc n)
    go true e = refl
    go false e = omega (arith, e)

or_length : (n m : ℕ) → n ≤ m → unwrap_or (cond (ltb n m) (Some n) None) m ≡ n
or_length n m h = go (ltb n m) refl
  where
    go : (t : Bool) → ltb n m ≡ t → unwrap_or (cond t (Some n) None) m ≡ n
    go true e = refl
    go false e = omega (arith, ltb-false n m e)

pub blank_found : (row : List ℕ) (o : Option ℕ) → o ≡ cond (ltb (position_or_len (λ c. eqb c blank) row) (length row)) (Some (position_or_len (λ c. eqb c blank) row)) None
    → unwrap_or o (length row) ≡ blank_at row
blank_found row o e = rw (e, blank_position row) (or_length (blank_at row) (length row) (blank-within row))
