-- `is_too_long` meets its promise: each test of the code is the definition's. Assumes nothing.
use borrow.Author.Tests.{lt-ltb, le-ltb}
use Rattle.ingage_answers.specs.Answers.{too_long}
use Rattle.ingage_answers.proofs.is_too_long.Goals as goal

pub returns-then-assoc-gt-LONGEST_ASSOCIATED : goal.returns-then-assoc-gt-LONGEST_ASSOCIATED
unfolding too_long
returns-then-assoc-gt-LONGEST_ASSOCIATED c = rw (lt-ltb _ _ c.if-assoc-gt-LONGEST_ASSOCIATED.true)

pub returns : goal.returns
unfolding too_long
returns c = rw (le-ltb _ _ c.if-assoc-gt-LONGEST_ASSOCIATED.false)
