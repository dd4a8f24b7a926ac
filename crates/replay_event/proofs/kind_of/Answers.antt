-- `kind_of` meets its promise: each arm of the decision over the tag is a line of `kind_of`. Assumes nothing.
use borrow.Author.Tests.{ne_eqb}
use native.Mathlib.Omega.{arith}
use Rattle.replay_spec.specs.Events.{received_tag, asked_tag, printed_tag, kind_of}
use Rattle.replay_event.proofs.kind_of.Goals as goal

pub returns-in-32 : goal.returns-in-32
unfolding kind_of
returns-in-32 c = rw c.in-32.is

pub returns-in-33 : goal.returns-in-33
unfolding kind_of
returns-in-33 c = rw c.in-33.is

pub returns-in-34 : goal.returns-in-34
unfolding kind_of
returns-in-34 c = rw c.in-34.is

pub returns-in_default : goal.returns-in_default
unfolding kind_of
returns-in_default c =
    rw (
      ne_eqb c.args.tag received_tag (λ e. omega arith),
      ne_eqb c.args.tag asked_tag (λ e. omega arith),
      ne_eqb c.args.tag printed_tag (λ e. omega arith),
    )
