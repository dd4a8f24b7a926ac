-- `are_sized` meets its promise. Assumes nothing.
use borrow.Author.Tests.{eq-eqb, ne_eqb}
use Rattle.frame_spec.specs.Told.{key_length}
use Rattle.replay_call.proofs.are_sized.Goals as goal

pub returns-then-key-ne-KEY_LENGTH : goal.returns-then-key-ne-KEY_LENGTH
returns-then-key-ne-KEY_LENGTH c = rw (ne_eqb c.args.key key_length c.if-key-ne-KEY_LENGTH.true)

pub returns : goal.returns
returns c = rw (eq-eqb c.args.key key_length c.if-key-ne-KEY_LENGTH.false)
