-- What `unstuff` writes has room: the length that was answered is that of the unstuffed bytes. Assumes nothing.
use mathlib.Core.Path.{sym, ◌∙◌}
use native.Mathlib.Omega.{arith}
use Rattle.frame_stuff_spec.proofs.Outcomes.{length-length}
use Rattle.frame_stuff.proofs.unstuff.Goals as goal

pub write_body-requires : goal.write_body-requires
write_body-requires c =
    omega (arith, length-length c.args.s.now c.in-Ok.n (sym (sym c.in-Ok.is ∙ c.unstuffed_length-answer.ensures)), c.if-n-out.false)
