-- Whether a table has the sixteen products: one test at each pair of cells, and what it says of each. Assumes nothing.
use Rattle.std.specs.Prelude.{◌≡◌, refl, Bool, true, false, List, ℕ, suc, ◌+◌, ◌*◌, ◌/◌, ◌-◌, ◌≤◌, ◌<◌, ◌%◌, T, eqb, replicate}
use Rattle.std.proofs.Common.{sym, subst, ◌∙◌, add-one, arith, eqb→eq}
use Rattle.base_lists.specs.Table.{at, both, every}
use Rattle.gage_cells.specs.Cells.{star, table}

-- the product of the pair 4 x + y of cells is the table's
abbrev pub pair_same : List (List ℕ) → ℕ → ℕ → Bool
pair_same t k z = eqb (star t (k / 4) (k % 4)) (star table (k / 4) (k % 4))

unfoldable pub has_products : List (List ℕ) → Bool
has_products t = every (pair_same t) 0 (replicate 16 0)

-- the same from pair i on: one more tested, one that differs, all tested
unfoldable pub products_from : List (List ℕ) → ℕ → Bool
products_from t i = every (pair_same t) i (replicate (16 - i) 0)

pub products-none : (t : List (List ℕ)) → has_products t ≡ products_from t 0
unfolding has_products products_from
products-none t = refl

products-step : (t : List (List ℕ)) (i : ℕ) → i < 16 → products_from t i ≡ both (pair_same t i 0) (products_from t (i + 1))
unfolding products_from
products-step t i h =
    let e : 16 - i ≡ suc (16 - (i + 1)) = omega arith in
    rw (e, add-one i)

pub products-more : (t : List (List ℕ)) (i : ℕ) → i < 16 → pair_same t i 0 ≡ true → products_from t i ≡ products_from t (i + 1)
products-more t i h e = products-step t i h ∙ rw e

pub products-differ : (t : List (List ℕ)) (i : ℕ) → i < 16 → pair_same t i 0 ≡ false → products_from t i ≡ false
products-differ t i h e = products-step t i h ∙ rw e

pub products-all : (t : List (List ℕ)) (i : ℕ) → 16 ≤ i → products_from t i ≡ true
unfolding products_from
products-all t i h = let e : 16 - i ≡ 0 = omega arith in rw e

-- the table itself has them
pub table-has : has_products table ≡ true
unfolding has_products
table-has = refl

-- a table that has them gives every product
pub has-each : (t : List (List ℕ)) → has_products t ≡ true → (x y : ℕ) → x < 4 → y < 4 → star t x y ≡ star table x y
unfolding has_products
has-each t e x y h g =
    let p : (x * 4 + y) / 4 ≡ x = omega arith in
    let q : (x * 4 + y) % 4 ≡ y = omega arith in
    let r : T (pair_same t (x * 4 + y) 0) = at (pair_same t) (replicate 16 0) (subst T (sym e) tt) (x * 4 + y) (omega arith) in
    eqb→eq (star t x y) (star table x y) (rw (p, q) at r)
