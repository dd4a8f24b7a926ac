-- `index_of` meets its promise: the place that `position` finds is what the recursion over the characters counts. Assumes nothing.
use Rattle.std.proofs.Common.{◌≡◌, ◌∙◌, sym, refl, Bool, true, false, cond, eqb, List, ℕ, ◌+◌, suc, rules, tests, arith}
use Rattle.std.specs.List.{position_or_len}
use Rattle.std.proofs.lemmas.Iterator.{YieldsList-from_slice}
use Rattle.std.proofs.lemmas.Iterator.Search.{position_from_yields_List}
use Rattle.std.proofs.lemmas.List.Recursion.{is_position_or_len}
use Rattle.bundle_spec.specs.Bundles.{characters}
use Rattle.bundle_spec.specs.Places.{index_of}
use Rattle.bundle_rules.proofs.Walking.{place_or_length}
use Rattle.bundle_rules.proofs.index_of.Goals as goal

counts : (c : ℕ) (cs : List ℕ) → index_of c cs ≡ position_or_len (eqb c) cs
unfolding index_of
counts c = is_position_or_len (index_of c) (eqb c) refl (λ d cs. one (eqb c d) (index_of c cs))
  where
    one : (t : Bool) (n : ℕ) → cond t 0 (suc n) ≡ cond t 0 (1 + n)
    one true n = refl
    one false n = omega arith

pub returns : goal.returns
returns c =
    c.unwrap_or.ensures
    ∙ place_or_length (eqb c.args.c) characters
    (position_from_yields_List (eqb c.args.c) _ _ c.position.result c.position.ensures.ran (YieldsList-from_slice characters cc) (λ x b q k. search (rules, tests)))
    ∙ sym (counts c.args.c characters)
