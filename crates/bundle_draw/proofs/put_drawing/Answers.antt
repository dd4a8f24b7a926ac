use mathlib.Core.Path.{sym, ◌∙◌}
use native.Mathlib.Omega.{arith}
use lib.ListN.{length}
use Rattle.base_lists.specs.Fill.{filled_none, filled_more, filled-all}
use Rattle.bundle_draw.specs.Drawing.{char_at, drawing, drawing_length}
use Rattle.bundle_draw.specs.Listed.{length-listed, get_d-listed}
use Rattle.bundle_draw.proofs.put_drawing.Goals as goal

pub loop-i-init : goal.loop-i-init
unfolding drawing
loop-i-init c =
    let s = c in
    let n = drawing_length (length s.args.name.now) in
    filled_none _ _ (rw (length-listed (char_at s.args.name.now s.args.rows.now) n) (omega (arith, s.requires)))

pub loop-i-preserved : goal.loop-i-preserved
unfolding drawing
loop-i-preserved c =
    let s = c in
    let l = c.loop-i in
    let n = drawing_length (length s.args.name.now) in
    let f = char_at s.args.name.now s.args.rows.now in
    filled_more _ l.invariant (rw (length-listed f n) (omega arith)) (c.char_at.ensures ∙ sym (get_d-listed f n l.i (omega arith)))

pub returns : goal.returns
unfolding drawing
returns c =
    let s = c in
    let n = drawing_length (length s.args.name.now) in
    filled-all c.loop-i.invariant (rw (length-listed (char_at s.args.name.now s.args.rows.now) n) (omega arith))
