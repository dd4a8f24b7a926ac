-- `all_digits` meets its promise: the digits are tested one by one. Assumes nothing.
use Rattle.std.proofs.Common.{◌≡◌, refl, Bool, true, false, cond, ◌&&◌, ℕ, List, [], ◌∷◌, ◌∙◌, rules, tests}
use Rattle.std.specs.List.{list_all}
use Rattle.std.proofs.lemmas.Iterator.{YieldsList-from_slice}
use Rattle.std.proofs.lemmas.Iterator.Search.{all_from_yields_List}
use Rattle.base_hex.specs.Hex.{value_of, is_digit, all_digits}
use Rattle.base_hex.proofs.all_digits.Goals as goal

tested : (s : List ℕ) → list_all (λ c. is_digit (value_of c)) s ≡ all_digits s
unfolding all_digits
tested [] = refl
tested (c ∷ s) = by (is_digit (value_of c)) (tested s)
  where
    by : (t : Bool) {u v : Bool} → u ≡ v → (t && u) ≡ cond t v false
    by true e = e
    by false e = refl

pub returns : goal.returns
returns c =
    let s = c.args.digits.now in
    all_from_yields_List (λ x. is_digit (value_of x)) _ _ _ c.all.ensures.ran (YieldsList-from_slice s (cc)) (λ x b q k. search (rules, tests)) ∙ tested s
