-- `met` meets its promise: `any` asks `is_at` of each place. Assumes nothing.
use mathlib.Core.Path.{sym, ◌∙◌}
use borrow.Author.Rules.{rules}
use native.Mathlib.Omega.{arith}
use Rattle.std.proofs.lemmas.Iterator.{YieldsList-from_range}
use Rattle.std.proofs.lemmas.Iterator.Search.{any_from_yields_List}
use Rattle.accept_nonces.specs.Seen.{pair_at}
use Rattle.accept_nonces.proofs.Laws.{pair_in-any}
use Rattle.accept_nonces.proofs.met.Goals as goal

pub returns : goal.returns
returns c =
    any_from_yields_List (pair_at c.args.highs.now c.args.lows.now c.args.high c.args.low) _ _ _ c.any.ensures.ran
    (YieldsList-from_range 0 c.args.n c.args.n (search rules) (omega arith)) (λ x b q k. search rules)
    ∙ sym (pair_in-any c.args.highs.now c.args.lows.now c.args.high c.args.low 0 c.args.n)
