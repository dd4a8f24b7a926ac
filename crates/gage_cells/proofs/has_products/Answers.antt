-- `has_products` meets its promise: the pairs are tested one by one, each against the product that the formula gives. Assumes nothing.
use Rattle.std.proofs.Common.{◌≡◌, refl, ◌∙◌, Bool, true, false, ◌&&◌, ℕ, zero, suc, ◌+◌, ◌≤◌, ◌/◌, ◌%◌, List, eqb, add-one, arith, rules, tests}
use Rattle.std.specs.Prelude.{replicate}
use Rattle.std.specs.List.{list_all, range_with_len}
use Rattle.std.proofs.lemmas.Iterator.{YieldsList-from_range}
use Rattle.std.proofs.lemmas.Iterator.Search.{all_from_yields_List}
use Rattle.base_lists.specs.Table.{both, every}
use Rattle.gage_cells.specs.Cells.{star}
use Rattle.gage_cells.specs.Pair.{product, product_is}
use Rattle.gage_cells.specs.Products.{pair_same, has_products}
use Rattle.gage_cells.proofs.has_products.Goals as goal

-- pair k of the table is the one that the formula gives
abbrev given : List (List ℕ) → ℕ → Bool
given t k = eqb (star t (k / 4) (k % 4)) (product (k / 4) (k % 4))

tested : (t : List (List ℕ)) (i n : ℕ) → i + n ≤ 16 → list_all (given t) (range_with_len i n) ≡ every (pair_same t) i (replicate n 0)
tested t i zero h = refl
tested t i (suc n) h = rw (product_is (i / 4) (i % 4) (omega arith) (omega arith), add-one i) (by (pair_same t i 0) (tested t (suc i) n (omega arith)))
  where
    by : (x : Bool) {u v : Bool} → u ≡ v → (x && u) ≡ both x v
    by true e = e
    by false e = refl

pub returns : goal.returns
unfolding has_products
returns c =
    all_from_yields_List (given c.args.t) _ _ _ c.all.ensures.ran (YieldsList-from_range 0 16 16 (cc) refl) (λ x b q k. search (rules, tests)) ∙ tested c.args.t 0 16 (omega arith)
