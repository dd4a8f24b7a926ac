-- `allows` meets its promise: each edition has its bit. Assumes nothing.
use Rattle.read_spec.specs.Editions.{allows}
use Rattle.read_bar.proofs.allows.Goals as goal

pub returns-in-One : goal.returns-in-One
unfolding allows
returns-in-One c = rw c.in-One.is

pub returns-in-Two : goal.returns-in-Two
unfolding allows
returns-in-Two c = rw c.in-Two.is
