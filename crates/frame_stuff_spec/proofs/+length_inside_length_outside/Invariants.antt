-- The measure of both rules is the length of the remainder, which falls at each hand over.
use Rattle.std.proofs.Common.{length}
use Rattle.frame_stuff_spec.proofs.+length_inside_length_outside.Given as goal

abbrev pub decreases-length_inside : goal.decreases-length_inside
decreases-length_inside l = length l.s.now

abbrev pub decreases-length_outside : goal.decreases-length_outside
decreases-length_outside l = length l.s.now
