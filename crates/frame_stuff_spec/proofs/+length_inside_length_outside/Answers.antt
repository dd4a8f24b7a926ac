-- What `length_outside` counts behind the first byte can have one added (proofs/Steps.antt). Assumes nothing.
use Rattle.std.proofs.Common.{arith, length-take, length-drop}
use Rattle.frame_stuff_spec.proofs.Steps.{outside-within}
use Rattle.frame_stuff_spec.proofs.+length_inside_length_outside.Goals as goal

pub length_inside-one_more-requires : goal.length_inside-one_more-requires
length_inside-one_more-requires t c = outside-within _ _ _ c.length_outside.ensures (simp (length-take, length-drop) (omega arith))

pub length_outside-one_more-requires : goal.length_outside-one_more-requires
length_outside-one_more-requires t c = outside-within _ _ _ c.length_outside.ensures (simp (length-take, length-drop) (omega arith))
