-- `is_sized` meets its promise: each test of the code is the definition's. Assumes nothing.
use borrow.Author.Tests.{eq-eqb, ne_eqb}
use Rattle.ingage_answers.specs.Answers.{sized}
use Rattle.ingage_call.proofs.is_sized.Goals as goal

pub returns-then-key-z : goal.returns-then-key-z
unfolding sized
returns-then-key-z c = rw (ne_eqb _ _ c.if-key-z.true)

pub returns-then-nonce-z : goal.returns-then-nonce-z
unfolding sized
returns-then-nonce-z c = rw (eq-eqb _ _ c.if-key-z.false, ne_eqb _ _ c.if-nonce-z.true)

pub returns : goal.returns
unfolding sized
returns c = rw (eq-eqb _ _ c.if-key-z.false, eq-eqb _ _ c.if-nonce-z.false)
