use Rattle.gage_planes_spec.specs.Told.{state_of}
use Rattle.gage_planes_spec.specs.Exact.{same-states}
use Rattle.gage_weave.proofs.weave.Goals as goal

-- src/lib.rt:146:1
pub returns : goal.returns
unfolding state_of
returns c =
    same-states c.planes-low.ensures c.rest-rest.ensures
