-- `wrapped` meets its promise: two joins make the state and seven bytes around (`wrapped-is`). Assumes nothing.
use Rattle.gage_shuffle.proofs.Wrapping.{wrapped-is}
use Rattle.gage_shuffle.proofs.wrapped.Goals as goal

pub returns : goal.returns
returns c = wrapped-is _ _ _ _ _ _ c.requires.0 c.join-e.ensures c.join.ensures
