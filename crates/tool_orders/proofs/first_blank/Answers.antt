-- `first_blank` meets its promise: `position` looks for the blank. Assumes nothing.
use mathlib.Core.Path.{◌∙◌}
use borrow.Author.Rules.{rules}
use borrow.Author.Tests.{tests}
use lib.Dec.{eqb}
use Rattle.std.proofs.lemmas.Iterator.{YieldsList-from_slice}
use Rattle.std.proofs.lemmas.Iterator.Search.{position_from_yields_List}
use Rattle.tool_orders.specs.Orders.{blank}
use Rattle.tool_orders.proofs.Blanks.{blank_found}
use Rattle.tool_orders.proofs.first_blank.Goals as goal

pub returns : goal.returns
returns c =
    c.unwrap_or.ensures ∙ blank_found c.args.row.now c.position.result
    (position_from_yields_List (λ x. eqb x blank) _ _ _ c.position.ensures.ran
    (YieldsList-from_slice c.args.row.now (cc)) (λ x b q k. search (rules, tests)))
