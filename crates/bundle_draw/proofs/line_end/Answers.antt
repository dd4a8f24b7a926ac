-- `line_end` meets its promise: the place that `position` finds is what the recursion over the text counts. Assumes nothing.
use Rattle.std.proofs.Common.{◌≡◌, ◌∙◌, sym, refl, Bool, true, false, cond, eqb, List, ℕ, ◌+◌, suc, rules, tests, arith}
use Rattle.std.specs.List.{position_or_len}
use Rattle.std.proofs.lemmas.Iterator.{YieldsList-from_slice}
use Rattle.std.proofs.lemmas.Iterator.Search.{position_from_yields_List}
use Rattle.std.proofs.lemmas.List.Recursion.{is_position_or_len}
use Rattle.bundle_dots.specs.Lines.{newline}
use Rattle.bundle_rules.proofs.Walking.{place_or_length}
use Rattle.bundle_draw.specs.Making.{end_of}
use Rattle.bundle_draw.proofs.line_end.Goals as goal

counts : (s : List ℕ) → end_of s ≡ position_or_len (λ b. eqb b newline) s
unfolding end_of
counts = is_position_or_len end_of (λ b. eqb b newline) refl (λ b s. one (eqb b newline) (end_of s))
  where
    one : (t : Bool) (n : ℕ) → cond t 0 (suc n) ≡ cond t 0 (1 + n)
    one true n = refl
    one false n = omega arith

pub returns : goal.returns
returns c =
    c.unwrap_or.ensures
    ∙ place_or_length (λ b. eqb b newline) c.args.text.now
    (position_from_yields_List (λ b. eqb b newline) _ _ c.position.result c.position.ensures.ran (YieldsList-from_slice c.args.text.now cc) (λ x b q k. search (rules, tests)))
    ∙ sym (counts c.args.text.now)
