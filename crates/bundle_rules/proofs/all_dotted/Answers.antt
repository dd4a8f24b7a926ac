-- `all_dotted` meets its promise: what `all` answers is what the recursion over the rows says. Assumes nothing.
use Rattle.std.proofs.Common.{◌≡◌, ◌∙◌, refl, Bool, true, false, cond, ◌&&◌, List, ℕ, ltb, rules, tests}
use Rattle.std.specs.List.{list_all}
use Rattle.std.proofs.lemmas.Iterator.{YieldsList-from_slice}
use Rattle.std.proofs.lemmas.Iterator.Search.{all_from_yields_List}
use Rattle.std.proofs.lemmas.List.Recursion.{same_from_clauses}
use Rattle.bundle_spec.specs.Bundles.{row_bound, dotted}
use Rattle.bundle_rules.proofs.all_dotted.Goals as goal

both : (t u : Bool) → (t && u) ≡ cond t u false
both true u = refl
both false u = refl

dotted_so : (r : List ℕ) → list_all (λ x. ltb x row_bound) r ≡ dotted r
unfolding dotted
dotted_so = same_from_clauses (list_all (λ x. ltb x row_bound)) dotted (λ x r. cond (ltb x row_bound) r false) refl (λ x r. both (ltb x row_bound) (list_all (λ x. ltb x row_bound) r)) (λ _ _. refl)

pub returns : goal.returns
returns c =
    all_from_yields_List (λ x. ltb x row_bound) _ _ _ c.all.ensures.ran (YieldsList-from_slice c.args.rows.now cc) (λ x b q k. search (rules, tests))
    ∙ dotted_so c.args.rows.now
