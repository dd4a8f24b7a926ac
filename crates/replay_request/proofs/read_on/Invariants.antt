-- `read_on` meets its promise. The invariant: the request from the place reached is the request asked for. The measure: the bytes behind that place.
-- Assumes nothing.
use mathlib.Core.Path.{◌≡◌}
use Prim.Native.Nat.{◌-◌}
use lib.ListN.{length}
use Rattle.frame_spec.specs.Told.{told}
use Rattle.replay_spec.specs.Press.{request}
use Rattle.replay_spec.specs.Answers.{judging}
use Rattle.replay_request.proofs.read_on.Given as goal

abbrev pub invariant-loop-at : goal.invariant-loop-at
invariant-loop-at l =
    request (judging (told l.key l.font l.layout) l.editions) l.stream l.from ≡ request (judging (told l.key l.font l.layout) l.editions) l.stream l.at

abbrev pub decreases-loop-at : goal.decreases-loop-at
decreases-loop-at l = length l.stream - l.at
