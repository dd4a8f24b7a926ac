-- `all_digits` meets its promise: what `all` answers is what the recursion over the bytes says. Assumes nothing.
use Rattle.std.proofs.Common.{◌≡◌, ◌∙◌, refl, Bool, true, false, cond, ◌&&◌, List, ℕ, rules, tests}
use Rattle.std.specs.List.{list_all}
use Rattle.std.proofs.lemmas.Iterator.{YieldsList-from_slice}
use Rattle.std.proofs.lemmas.Iterator.Search.{all_from_yields_List}
use Rattle.std.proofs.lemmas.List.Recursion.{same_from_clauses}
use Rattle.line_spec.specs.Lines.{is_digit, all_digits}
use Rattle.line_layout.proofs.all_digits.Goals as goal

both : (t u : Bool) → (t && u) ≡ cond t u false
both true u = refl
both false u = refl

listed_so : (s : List ℕ) → list_all is_digit s ≡ all_digits s
unfolding all_digits
listed_so = same_from_clauses (list_all is_digit) all_digits (λ b r. cond (is_digit b) r false) refl (λ b s. both (is_digit b) (list_all is_digit s)) (λ _ _. refl)

pub returns : goal.returns
returns c =
    all_from_yields_List is_digit _ _ _ c.all.ensures.ran (YieldsList-from_slice c.args.part.now cc) (λ x b q k. search (rules, tests))
    ∙ listed_so c.args.part.now
