-- The table of products: closed, and x * (x * y) = y (document 003, Proposition 1), by one test over its sixteen entries.
-- Assumes nothing.
use Rattle.std.specs.Prelude.{◌≡◌, Bool, List, [], ◌∷◌, ℕ, zero, suc, ◌+◌, ◌*◌, ◌/◌, ◌<◌, ◌≤◌, ◌%◌, T, eqb, ltb, length, get_or, replicate}
use Rattle.std.proofs.Common.{sym, subst, arith, lit<, eqb→eq, ltb→lt}
use Rattle.std.proofs.Math.Decide.{dec_lt}
use Rattle.std.proofs.Math.ListN.{get_or-eq_default}
use Rattle.base_lists.specs.Table.{at, every}
use Rattle.gage_cells.specs.Cells.{star, table, Closed}

undone : ℕ → ℕ → Bool
undone k z = eqb (star table (k / 4) (star table (k / 4) (k % 4))) (k % 4)

pub star-undoes : (x y : ℕ) → x < 4 → y < 4 → star table x (star table x y) ≡ y
unfolding undone
star-undoes x y h g =
    let t : T (eqb (star table ((x * 4 + y) / 4) (star table ((x * 4 + y) / 4) ((x * 4 + y) % 4))) ((x * 4 + y) % 4)) =
    at undone (replicate 16 0) tt (x * 4 + y) (omega arith) in
    let p : (x * 4 + y) / 4 ≡ x = omega arith in
    let q : (x * 4 + y) % 4 ≡ y = omega arith in
    eqb→eq (star table x (star table x y)) y (rw (p, q) at t)

small : ℕ → ℕ → Bool
small k x = ltb x 4

row : (r : List ℕ) → T (every small 0 r) → (y : ℕ) → get_or r y 0 < 4
unfolding small
row r t y = elim (dec_lt y (length r)) [
  | yes h ↦ ltb→lt (get_or r y 0) 4 (at small r t y h)
  | no h ↦ subst (λ (z : ℕ). z < 4) (sym (get_or-eq_default r 0 (let g : length r ≤ y = omega arith in g))) (lit< tt)
]

closed : (x y : ℕ) → star table x y < 4
unfolding small
closed zero y = row (1 ∷ 0 ∷ 3 ∷ 2 ∷ []) tt y
closed (suc zero) y = row (0 ∷ 2 ∷ 1 ∷ 3 ∷ []) tt y
closed (suc (suc zero)) y = row (2 ∷ 3 ∷ 0 ∷ 1 ∷ []) tt y
closed (suc (suc (suc zero))) y = row (3 ∷ 1 ∷ 2 ∷ 0 ∷ []) tt y
closed (suc (suc (suc (suc x)))) y = lit< tt

pub table-closed : Closed table
table-closed = record { below = closed }
